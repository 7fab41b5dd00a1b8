-- The texts of the lines that a session writes.
use Rattle.std.specs.Prelude.{ℕ, List, [], ◌∷◌, Option, Some, None, codes, decimal}
use Rattle.apply_core.specs.declared.reply.Reply.{Reply}
use Rattle.guest_core.specs.declared.answer.SubmitFault.{SubmitFault}
use Rattle.guest_core.specs.declared.answer.SubmitFault.TheVariants as faults
use Rattle.guest_core.specs.declared.answer.KeyedFault.{KeyedFault}
use Rattle.guest_core.specs.declared.answer.KeyedFault.TheVariants as keyed
use Rattle.guest_core.specs.declared.answer.Cancelled.{Cancelled}
use Rattle.guest_core.specs.declared.answer.Cancelled.TheVariants as answers
use Rattle.word_core.specs.Words.{bare, line_of}
use Rattle.word_core.specs.Answers.{refused_line, finished_line, cancelled_line, kept_line, repeated_line}
use Rattle.session_text.specs.declared.line.LineRefusal.{LineRefusal}
use Rattle.session_text.specs.declared.line.LineRefusal.TheVariants as refusals
use Rattle.session_text.specs.declared.line.Unended.{Unended}
use Rattle.session_text.specs.declared.line.Unended.TheVariants as unended
use Rattle.session_text.specs.declared.line.ReplyLine.{ReplyLine}
use Rattle.session_text.specs.declared.line.ReplyLine.TheVariants as lines

abbrev pub refusal_name : LineRefusal → List ℕ
refusal_name refusals.BadLine = codes "BadLine"
refusal_name refusals.LineTooLong = codes "LineTooLong"
refusal_name refusals.NotOpen = codes "NotOpen"
refusal_name refusals.Opened = codes "Opened"
refusal_name refusals.NoObject = codes "NoObject"
refusal_name refusals.InUse = codes "InUse"
refusal_name refusals.Full = codes "Full"
refusal_name refusals.Gone = codes "Gone"

abbrev pub fault_name : SubmitFault → List ℕ
fault_name faults.Gone = codes "Gone"
fault_name faults.UnknownOp = codes "UnknownOp"
fault_name faults.BadArgs = codes "BadArgs"
fault_name faults.SessionBusy = codes "SessionBusy"
fault_name faults.Full = codes "Full"
fault_name faults.HistoryFull = codes "HistoryFull"
fault_name faults.Memory = codes "Memory"

abbrev pub keyed_name : KeyedFault → List ℕ
keyed_name keyed.Gone = codes "Gone"
keyed_name keyed.BadKey = codes "BadKey"
keyed_name keyed.KeyReused = codes "KeyReused"
keyed_name (keyed.Submit fault) = fault_name fault

abbrev pub unended_name : Unended → List ℕ
unended_name unended.Waiting = codes "waiting"
unended_name unended.Running = codes "running"
unended_name unended.Cancelled = codes "cancelled"

abbrev pub cancel_name : Cancelled → List ℕ
cancel_name answers.Cancelled = codes "Cancelled"
cancel_name answers.Running = codes "Running"
cancel_name answers.Ended = codes "Ended"
cancel_name answers.Unknown = codes "Unknown"

-- `accepted N`
abbrev pub accepted_text : ℕ → List ℕ
accepted_text n = line_of (bare (codes "accepted") ∷ bare (decimal n) ∷ [])

-- `cancelled N`
abbrev pub withdrawn_text : ℕ → List ℕ
withdrawn_text n = line_of (bare (codes "cancelled") ∷ bare (decimal n) ∷ [])

-- `bye`
abbrev pub bye_text : List ℕ
bye_text = line_of (bare (codes "bye") ∷ [])

abbrev pub line_text : ReplyLine → List ℕ
line_text (lines.Refused refusal) = refused_line (refusal_name refusal)
line_text (lines.Unsubmitted fault) = refused_line (fault_name fault)
line_text (lines.Unkeyed fault) = refused_line (keyed_name fault)
line_text (lines.Accepted n) = accepted_text n
line_text (lines.Kept n state) = kept_line (unended_name state) n
line_text (lines.Withdrawn n) = withdrawn_text n
line_text (lines.Cancel n answer) = cancelled_line n (cancel_name answer)
line_text lines.Bye = bye_text

-- `opened NAME`, or `opened NAME next K`
abbrev pub opened_text : List ℕ → Option ℕ → List ℕ
opened_text name None = line_of (bare (codes "opened") ∷ bare name ∷ [])
opened_text name (Some key) =
    line_of (bare (codes "opened") ∷ bare name ∷ bare (codes "next") ∷ bare (decimal key) ∷ [])

-- the last line of a call that has a receipt: `done N`, `done N VALUE`, `refused N WORD` or `failed N WORD`
abbrev pub ended_text : ℕ → Reply → List ℕ
ended_text n reply = finished_line n reply

-- the last line of a call that was made before: what a call with a receipt ends with, behind `repeat`
abbrev pub repeated_text : ℕ → Reply → List ℕ
repeated_text n reply = repeated_line n reply
