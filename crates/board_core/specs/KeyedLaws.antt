-- Laws of calls under keys.
use Rattle.std.specs.Prelude.{◌≡◌, ◌↔◌, ℕ, ◌+◌, length, Result, Ok, Err}
use Rattle.page_core.specs.ObjectCalls.{AcceptedCall}
use Rattle.board_core.specs.Board.{Board, joined}
use Rattle.board_core.specs.Started.{Settles}
use Rattle.board_core.specs.Keys.{HasKey, next_key}
use Rattle.guest_core.specs.declared.answer.SubmitFault.{SubmitFault}
use Rattle.guest_core.specs.declared.answer.SubmitFault.TheVariants as faults
use Rattle.guest_core.specs.declared.answer.KeyedFault.{KeyedFault}
use Rattle.guest_core.specs.declared.answer.KeyedFault.TheVariants.{Gone, Submit}
use Rattle.board_core.specs.declared.answer.Keyed.{Keyed}
use Rattle.board_core.specs.declared.answer.Keyed.TheVariants.{New, Kept}
use Rattle.board_core.specs.Answers.{Asked, IsGone, IsTaken, IsRefused}
use Rattle.board_core.specs.Keyed.{IsSameCall, SubmitsKeyed}

-- a call that was made before is told
abbrev pub IsKeptAnswer : Result Keyed KeyedFault → Type 0
IsKeptAnswer (Ok (Kept kept)) = Unit {0}
IsKeptAnswer (Ok (New n)) = ⊥
IsKeptAnswer (Err fault) = ⊥

-- the session made the call that is asked for, under this key
abbrev pub HasMade : Board → Asked → ℕ → Type 0
HasMade b a key = (n : ℕ) × (has : HasKey b.calls a.session key n) × IsSameCall a has.call

-- Where the session is there, a call that was made before is told exactly where the session made it under this key.
abbrev pub KeptExactly : Type 0
KeptExactly =
    (b after : Board) (a : Asked) (key : ℕ) (r : Result Keyed KeyedFault) → SubmitsKeyed b a key r after →
    (IsGone b a.session → ⊥) → HasMade b a key ↔ IsKeptAnswer r

-- what a submission answers and makes of the board: the next number, and the call joins; or the first refusal that
-- applies, and all is as it was
abbrev pub Submits : Board → Asked → Result ℕ SubmitFault → Board → Type 0
Submits b a (Ok n) after =
    (n ≡ length b.calls + 1) × ((call : AcceptedCall) × IsTaken b a call × Settles (joined b call) after)
Submits b a (Err fault) after = IsRefused b a fault × (after ≡ b)

-- what a submission answers, told as the answer to a call under the next key
abbrev pub as_keyed : Result ℕ SubmitFault → Result Keyed KeyedFault
as_keyed (Ok n) = Ok (New n)
as_keyed (Err faults.Gone) = Err Gone
as_keyed (Err faults.UnknownOp) = Err (Submit faults.UnknownOp)
as_keyed (Err faults.BadArgs) = Err (Submit faults.BadArgs)
as_keyed (Err faults.SessionBusy) = Err (Submit faults.SessionBusy)
as_keyed (Err faults.Full) = Err (Submit faults.Full)
as_keyed (Err faults.HistoryFull) = Err (Submit faults.HistoryFull)
as_keyed (Err faults.Memory) = Err (Submit faults.Memory)

-- A submission is a call under the session's next key.
abbrev pub SubmitIsKeyed : Type 0
SubmitIsKeyed =
    (b after : Board) (a : Asked) (r : Result ℕ SubmitFault) →
    Submits b a r after ↔ SubmitsKeyed b a (next_key b.calls a.session) (as_keyed r) after
