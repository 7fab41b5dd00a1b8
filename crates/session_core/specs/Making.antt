-- The calls that a session makes.
use Rattle.std.specs.Prelude.{⊤, ◌≡◌, ◌⊎◌, ℕ, List, [], ◌∷◌, ◌++◌, Option, Some, None, Ok}
use Rattle.value_core.specs.declared.datum.Datum.{Datum}
use Rattle.page_core.specs.CallPins.{Call}
use Rattle.board_core.specs.Board.{Board}
use Rattle.board_core.specs.Sound.{IsSound}
use Rattle.board_core.specs.Answers.{Asked, HasName}
use Rattle.board_core.specs.Keyed.{Finds}
use Rattle.office_core.specs.Slips.{Told}
use Rattle.session_text.specs.declared.session.Action.{Action}
use Rattle.session_text.specs.declared.session.Action.TheVariants as actions
use Rattle.session_core.specs.declared.entered.EnteredObject.{EnteredObject}

-- what a session asks for with a call
abbrev pub asked_by : ℕ → List ℕ → List Datum → Asked
asked_by session name args = record { session = session; name = name; arguments = args }

-- a call is to be made: it has no key, or some sound board has its key as that of its session's next call
abbrev pub IsNew : Asked → Option ℕ → Type 0
IsNew a None = ⊤
IsNew a (Some key) = (b : Board) × IsSound b × Finds b a key (Ok None)

-- a call is of the operation of this name, with these arguments
pub record IsCallOf (name : List ℕ) (args : List Datum) (call : Call) : Type 0 where
  pub named : HasName name call.operation
  pub arguments : call.arguments ≡ args

-- one more receipt came, and it is of such a call by this session
pub record AddsOne (session : ℕ) (name : List ℕ) (args : List Datum) (old new : List Told) : Type 0 where
  pub receipt : Told
  pub by : receipt.session ≡ session
  pub of : IsCallOf name args receipt.call
  pub behind : new ≡ old ++ receipt ∷ []

-- a call was made once by this session, or not: a receipt of it came, or none did
abbrev pub MakesOnce : ℕ → List ℕ → List Datum → List Told → List Told → Type 0
MakesOnce session name args old new = (new ≡ old) ⊎ AddsOne session name args old new

-- the same of a call under this key, or none, by the seat that is there; and only one that is to be made is
abbrev pub MakesCall : Option EnteredObject → Option ℕ → List ℕ → List Datum → List Told → List Told → Type 0
MakesCall seat key name args old new =
    (new ≡ old)
    ⊎ ((e : EnteredObject) × (seat ≡ Some e) × IsNew (asked_by e.seat.session name args) key
    × AddsOne e.seat.session name args old new)

-- what a line asks for was done: the call that it asks for, and no other
abbrev pub MakesFor : Action → Option EnteredObject → List Told → List Told → Type 0
MakesFor (actions.Call key name args) seat old new = MakesCall seat key name args.items old new
MakesFor (actions.Open name client) seat old new = new ≡ old
MakesFor (actions.Cancel number) seat old new = new ≡ old
MakesFor actions.Quit seat old new = new ≡ old
MakesFor (actions.Answer refusal) seat old new = new ≡ old
