-- What is held of an object over turns, and which calls ended in them.
use Rattle.std.specs.Prelude.{◌≡◌, ℕ, List, [], ◌∷◌, ◌++◌, Some, slice_get}
use Rattle.decl_core.specs.ObjectForm.{ObjectForm}
use Rattle.word_core.specs.Events.{Happened, ended, history_of}
use Rattle.decl_core.specs.HoldForm.{RulesForm}
use Rattle.guest_core.specs.Held.{AreHeld}
use Rattle.audit_core.specs.Steps.{Step, ran, cancelled, named}
use Rattle.live_core.specs.Scene.{Scene}
use Rattle.keep_loop.specs.Turns.{Turn}
use Rattle.client_core.specs.Custody.{Custody, as_told}
use Rattle.history_law.specs.Said.{Account, SaysIn}
use Rattle.table_core.specs.Moves.{Gives}
use Rattle.table_core.specs.Seen.{seen}
use Rattle.table_core.specs.declared.table.Table.{Table}
use Rattle.history_law.specs.Kept.{Stood}
use Rattle.history_law.specs.Replied.{AreTold, ends_in}

-- the calls that ended in these steps, each with the number that was told of it, the newest first
abbrev pub ends_of : Scene → List Step → List Happened
ends_of s [] = []
ends_of s (ran c reply ∷ steps) = ended (as_told s c) reply ∷ ends_of s steps
ends_of s (cancelled c ∷ steps) = ends_of s steps
ends_of s (named session client ∷ steps) = ends_of s steps

-- What is held of the object at a place, by these rules, is what just these calls have left that ended.
pub record HoldsBy (t : Table) (j : ℕ) (rules : RulesForm) (past : List Happened) : Type 0 where
  pub custody : Custody
  pub there : slice_get (seen t).custody j ≡ Some custody
  pub rules_are : custody.rules ≡ rules
  pub are : AreHeld rules.holds past custody.held

-- These turns lead from old to new, and this happened in each of them: so behind the calls of one object that had ended
-- before just these have ended.
abbrev pub EndsOver : ℕ → Table → List Turn → List Account → Table → List Happened → List Happened → Type 0
EndsOver j old [] [] new past now = (new ≡ old) × (now ≡ past)
EndsOver j old [] (a ∷ accounts) new past now = ⊥
EndsOver j old (t ∷ turns) [] new past now = ⊥
EndsOver j old (t ∷ turns) (a ∷ accounts) new past now =
    (mid : Table) × Gives old t.asked t.said t.added mid × SaysIn (seen old) t.asked t.said t.added a (seen mid)
    × (s : Scene) × (slice_get old.objects.items j ≡ Some s) × EndsOver j mid turns accounts new (ends_of s (a j) ++ past) now

-- Behind turns what is held of an object is what these calls have left, and those of before. They are the ends by which the
-- object has lived on, in their order.
pub record HoldsOver (first last : Table) (j : ℕ) (o : ObjectForm) (turns : List Turn) (accounts : List Account) (rules : RulesForm)
    (past : List Happened) : Type 0 where
  pub ends : List Happened
  pub over : EndsOver j first turns accounts last past ends
  pub holds : HoldsBy last j rules ends
  pub done : history_of o ends ≡ history_of o past ++ ends_in o j accounts

-- So it is behind any turns, in which an object begins any number of epochs, and by whatever happened in them: what is told is
-- true of it.
abbrev pub TurnsHold : Type 0
TurnsHold =
    (first last : Table) (turns : List Turn) (accounts : List Account) (j : ℕ) (o : ObjectForm) (rules : RulesForm) (past : List Happened) →
    AreTold first turns accounts last → Stood first j o → HoldsBy first j rules past → HoldsOver first last j o turns accounts rules past
