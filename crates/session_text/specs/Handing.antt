-- What the threads of a session hand over.
use Rattle.std.specs.Prelude.{◌≡◌, ◌≢◌, ◌⊎◌, List, [], ◌∷◌, ◌++◌, Bool, true, false, Option, None}
use Rattle.session_text.specs.declared.session.Action.{Action}
use Rattle.session_text.specs.Hearing.{Hearing}

-- the first thread wants the reading side: it does nothing more, or it is idle and nothing is there for it to do
abbrev pub IsWanted : Bool → Bool → List Action → Type 0
IsWanted is_over is_idle actions = (is_over ≡ true) ⊎ ((is_idle ≡ true) × (actions ≡ []))

-- something is there for it to do, or the reading side is
abbrev pub IsReady : List Action → Option Hearing → Type 0
IsReady actions ear = (actions ≢ []) ⊎ (ear ≢ None)

-- what was heard is added behind all that was heard before it, or nothing is
abbrev pub Passes : List Action → Action → Bool → List Action → Type 0
Passes actions action true new = new ≡ actions ++ action ∷ []
Passes actions action false new = new ≡ actions

-- the reading side goes where nothing is to be done before, and else it stays
abbrev pub TakesEar : List Action → Option Hearing → Option Hearing → Option Hearing → Type 0
TakesEar [] ear taken left = (taken ≡ ear) × (left ≡ None)
TakesEar (action ∷ actions) ear taken left = (taken ≡ None) × (left ≡ ear)
