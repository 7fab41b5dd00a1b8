-- Which lines may answer which request.
use Rattle.std.specs.Prelude.{⊤, ◌≡◌, ℕ, List, Option, Some, None}
use Rattle.apply_core.specs.declared.reply.Reply.{Reply}
use Rattle.session_text.specs.declared.line.AnyLine.{AnyLine}
use Rattle.session_text.specs.declared.line.AnyLine.TheVariants as any_lines
use Rattle.session_text.specs.declared.line.ReplyLine.{ReplyLine}
use Rattle.session_text.specs.declared.line.ReplyLine.TheVariants as lines
use Rattle.session_text.specs.declared.line.LineRefusal.TheVariants as refusals
use Rattle.session_text.specs.Requests.{Request, opens, calls, cancels, quits}
use Rattle.session_text.specs.Lines.{line_text, opened_text, ended_text, repeated_text}

-- a line that a session says: an object was opened, and for a client that has a name its next key is told; a call that
-- has a receipt ended so; a call that was made before had ended so; any other line
pub data Said : Type 0 where
  opened : List ℕ → Option ℕ → Said
  ended : ℕ → Reply → Said
  repeated : ℕ → Reply → Said
  told : ReplyLine → Said

abbrev pub said_text : Said → List ℕ
said_text (opened name next) = opened_text name next
said_text (ended n reply) = ended_text n reply
said_text (repeated n reply) = repeated_text n reply
said_text (told line) = line_text line

-- a line, without where a name or a reply lies
abbrev pub said_of : AnyLine → Said
said_of (any_lines.Opened name next) = opened name.now next
said_of (any_lines.Ended n reply) = ended n reply.now
said_of (any_lines.Repeated n reply) = repeated n reply.now
said_of (any_lines.Told line) = told line

-- the table: which lines may answer a request, or a line that asks for nothing; the last line of a call that has a
-- receipt is not among them
abbrev pub MayAnswer : Option Request → Said → Type 0
MayAnswer (Some (opens name None)) (opened n None) = n ≡ name
MayAnswer (Some (opens name (Some client))) (opened n (Some key)) = n ≡ name
MayAnswer (Some (opens name (Some client))) (told (lines.Refused refusals.InUse)) = ⊤
MayAnswer (Some (opens name client)) (told (lines.Refused refusals.NoObject)) = ⊤
MayAnswer (Some (opens name client)) (told (lines.Refused refusals.Opened)) = ⊤
MayAnswer (Some (opens name client)) (told (lines.Refused refusals.Full)) = ⊤
MayAnswer (Some (calls (Some key) op args)) (repeated n reply) = ⊤
MayAnswer (Some (calls (Some key) op args)) (told (lines.Kept n state)) = ⊤
MayAnswer (Some (calls (Some key) op args)) (told (lines.Unkeyed fault)) = ⊤
MayAnswer (Some (calls key op args)) (told (lines.Accepted n)) = ⊤
MayAnswer (Some (calls key op args)) (told (lines.Withdrawn n)) = ⊤
MayAnswer (Some (calls key op args)) (told (lines.Unsubmitted fault)) = ⊤
MayAnswer (Some (calls key op args)) (told (lines.Refused refusals.NotOpen)) = ⊤
MayAnswer (Some (calls key op args)) (told (lines.Refused refusals.Gone)) = ⊤
MayAnswer (Some (cancels n)) (told (lines.Cancel m answer)) = m ≡ n
MayAnswer (Some (cancels n)) (told (lines.Refused refusals.NotOpen)) = ⊤
MayAnswer (Some (cancels n)) (told (lines.Refused refusals.BadLine)) = ⊤
MayAnswer (Some quits) (told lines.Bye) = ⊤
MayAnswer None (told (lines.Refused refusals.BadLine)) = ⊤
MayAnswer None (told (lines.Refused refusals.LineTooLong)) = ⊤
MayAnswer q line = ⊥
