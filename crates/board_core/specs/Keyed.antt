-- What a call under a key is answered.
use Rattle.std.specs.Prelude.{◌≡◌, ℕ, ◌+◌, ◌<◌, ◌⊎◌, true, false, length, Option, Some, None, Result, Ok, Err}
use Rattle.page_core.specs.Lists.{Among}
use Rattle.page_core.specs.ObjectCalls.{AcceptedCall, Noted}
use Rattle.board_core.specs.Board.{Board, joined}
use Rattle.board_core.specs.Started.{Settles}
use Rattle.board_core.specs.Keys.{HasKey, next_key}
use Rattle.guest_core.specs.declared.answer.KeyedFault.{KeyedFault}
use Rattle.guest_core.specs.declared.answer.KeyedFault.TheVariants.{Gone, BadKey, KeyReused, Submit}
use Rattle.board_core.specs.declared.answer.CallState.{CallState}
use Rattle.board_core.specs.declared.answer.CallState.TheVariants.{Waiting, Running, Cancelled, Ended}
use Rattle.board_core.specs.declared.answer.EarlierCall.{EarlierCall}
use Rattle.board_core.specs.declared.answer.Keyed.{Keyed}
use Rattle.board_core.specs.declared.answer.Keyed.TheVariants as keyed
use Rattle.board_core.specs.Answers.{Asked, HasName, IsGone, IsTaken, IsRefused, waits_in, runs_in, ended_in}

-- a call is of the operation of the name that is asked, in any case, with the arguments that are asked
pub record IsSameCall (a : Asked) (call : AcceptedCall) : Type 0 where
  pub named : HasName a.name call.operation
  pub arguments : call.arguments ≡ a.arguments

-- what became of the accepted call of this number: it waits, it runs, its entry has this reply, or none of these, and
-- then it was cancelled
abbrev pub IsStateOf : Board → ℕ → CallState → Type 0
IsStateOf b n Waiting = waits_in b n ≡ true
IsStateOf b n Running = (waits_in b n ≡ false) × (runs_in b n ≡ true)
IsStateOf b n Cancelled = (waits_in b n ≡ false) × (runs_in b n ≡ false) × (ended_in b n ≡ false)
IsStateOf b n (Ended reply) =
    (waits_in b n ≡ false) × (runs_in b n ≡ false)
    × ((e : Noted) × Among e b.history × (e.number ≡ n) × (e.reply ≡ reply))

-- the session's call of this key, which is the one that is asked for, and what became of it
pub record IsKeptCall (b : Board) (a : Asked) (key : ℕ) (kept : EarlierCall) : Type 0 where
  pub has : HasKey b.calls a.session key kept.number
  pub same : IsSameCall a has.call
  pub state : IsStateOf b kept.number kept.state

-- What is known of a key: it is that of the session's next call, or of one before; or the first of the faults, in their
-- order, that applies.
abbrev pub Finds : Board → Asked → ℕ → Result (Option EarlierCall) KeyedFault → Type 0
Finds b a key (Ok None) = (IsGone b a.session → ⊥) × (key ≡ next_key b.calls a.session)
Finds b a key (Ok (Some kept)) = (IsGone b a.session → ⊥) × IsKeptCall b a key kept
Finds b a key (Err Gone) = IsGone b a.session
Finds b a key (Err BadKey) = (IsGone b a.session → ⊥) × ((key ≡ 0) ⊎ (next_key b.calls a.session < key))
Finds b a key (Err KeyReused) =
    (IsGone b a.session → ⊥) × ((n : ℕ) × (has : HasKey b.calls a.session key n) × (IsSameCall a has.call → ⊥))
Finds b a key (Err (Submit fault)) = ⊥

-- What a submission under a key answers and makes of the board: for the session's next key it is a submission,
-- else it changes nothing.
abbrev pub SubmitsKeyed : Board → Asked → ℕ → Result Keyed KeyedFault → Board → Type 0
SubmitsKeyed b a key (Ok (keyed.New n)) after =
    (key ≡ next_key b.calls a.session) × (n ≡ length b.calls + 1)
    × ((call : AcceptedCall) × IsTaken b a call × Settles (joined b call) after)
SubmitsKeyed b a key (Ok (keyed.Kept kept)) after = (IsGone b a.session → ⊥) × IsKeptCall b a key kept × (after ≡ b)
SubmitsKeyed b a key (Err Gone) after = IsGone b a.session × (after ≡ b)
SubmitsKeyed b a key (Err BadKey) after =
    (IsGone b a.session → ⊥) × ((key ≡ 0) ⊎ (next_key b.calls a.session < key)) × (after ≡ b)
SubmitsKeyed b a key (Err KeyReused) after =
    (IsGone b a.session → ⊥) × ((n : ℕ) × (has : HasKey b.calls a.session key n) × (IsSameCall a has.call → ⊥))
    × (after ≡ b)
SubmitsKeyed b a key (Err (Submit fault)) after =
    (IsGone b a.session → ⊥) × (key ≡ next_key b.calls a.session) × IsRefused b a fault × (after ≡ b)
