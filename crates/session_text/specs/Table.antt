-- The table of sessions: what is done for a line.
use Rattle.std.specs.Prelude.{◌≡◌, ◌⊎◌, ℕ, List, Bool, true, false}
use Rattle.session_text.specs.declared.line.LineRefusal.TheVariants as refusals
use Rattle.session_text.specs.declared.session.Action.{Action}
use Rattle.session_text.specs.declared.session.Action.TheVariants as actions
use Rattle.session_text.specs.Requests.{Request, opens, calls, cancels, quits}
use Rattle.session_text.specs.View.{IsRequest}

-- what is done for a request, by whether an object is opened
abbrev pub Does : Bool → Request → Action → Type 0
Does true (opens name client) action = action ≡ actions.Answer refusals.Opened
Does false (opens name client) (actions.Open n c) = (n ≡ name) × (c ≡ client)
Does true (calls key op args) (actions.Call k o v) = (k ≡ key) × (o ≡ op) × (v.items ≡ args)
Does false (calls key op args) action = action ≡ actions.Answer refusals.NotOpen
Does true (cancels n) action = action ≡ actions.Cancel n
Does false (cancels n) action = action ≡ actions.Answer refusals.NotOpen
Does b quits action = action ≡ actions.Quit
Does b q action = ⊥

-- a line that asks for something gets that, and any other is a bad line
abbrev pub Takes : Bool → List ℕ → Action → Type 0
Takes opened line action =
    ((q : Request) × IsRequest line q × Does opened q action)
    ⊎ (((q : Request) → IsRequest line q → ⊥) × (action ≡ actions.Answer refusals.BadLine))

-- what is done for the last request of a session where no line end stands behind it: what was read may be the front of
-- a longer line, so no call is done and none cancelled, while to open an object and to end harm nobody
abbrev pub DoesLast : Bool → Request → Action → Type 0
DoesLast true (calls key op args) action = action ≡ actions.Answer refusals.Gone
DoesLast true (cancels n) action = action ≡ actions.Answer refusals.BadLine
DoesLast b q action = Does b q action

-- what is done for a last line without a line end
abbrev pub TakesLast : Bool → List ℕ → Action → Type 0
TakesLast opened line action =
    ((q : Request) × IsRequest line q × DoesLast opened q action)
    ⊎ (((q : Request) → IsRequest line q → ⊥) × (action ≡ actions.Answer refusals.BadLine))
