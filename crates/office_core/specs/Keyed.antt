-- What a call under a key is answered.
use Rattle.std.specs.Prelude.{◌≡◌, ℕ, Result, Ok, Err}
use Rattle.board_core.specs.Board.{Board}
use Rattle.board_core.specs.Sound.{IsSound}
use Rattle.board_core.specs.Answers.{Asked}
use Rattle.board_core.specs.Keyed.{IsKeptCall, SubmitsKeyed}
use Rattle.guest_core.specs.declared.answer.KeyedFault.{KeyedFault}
use Rattle.board_core.specs.declared.answer.Keyed.{Keyed}
use Rattle.board_core.specs.declared.answer.Keyed.TheVariants as keyed
use Rattle.office_core.specs.declared.seat.Submitted.{Submitted}
use Rattle.office_core.specs.declared.uncalled.Resubmitted.{Resubmitted}
use Rattle.office_core.specs.declared.uncalled.Resubmitted.TheVariants as asked
use Rattle.office_core.specs.Submissions.{Asks, IsOf}

-- what the desk answers
abbrev pub keyed_of : Resubmitted → Keyed
keyed_of (asked.New s) = keyed.New s.number
keyed_of (asked.Kept kept) = keyed.Kept kept

abbrev pub answer_of : Result Resubmitted KeyedFault → Result Keyed KeyedFault
answer_of (Ok r) = Ok (keyed_of r)
answer_of (Err fault) = Err fault

-- What is told of a call under a key: a new one is of what was asked, and of the board's call of its number; an old one
-- is the call of this key that a sound board has; a sound board refuses by this fault.
abbrev pub Resubmits : Board → Asked → ℕ → Result Resubmitted KeyedFault → Type 0
Resubmits b a key (Ok (asked.New s)) = Asks a.name a.arguments s × IsOf b s
Resubmits b a key (Ok (asked.Kept kept)) = IsSound b × IsKeptCall b a key kept
Resubmits b a key (Err fault) = IsSound b × SubmitsKeyed b a key (Err fault) b
