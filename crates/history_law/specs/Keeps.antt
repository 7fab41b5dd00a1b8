-- What not everybody may give back is given back once, over any turns.
use Rattle.std.specs.Prelude.{◌≡◌, ◌≢◌, ◌≤◌, ◌+◌, ℕ, false, List, Some, None, slice_get}
use Rattle.decl_core.specs.ObjectForm.{ObjectForm}
use Rattle.path_tree.specs.Lexeme.{Lexeme}
use Rattle.decl_core.specs.ObjectForm.{OperationForm}
use Rattle.word_core.specs.Events.{Called, Happened}
use Rattle.live_core.specs.Hall.{Every}
use Rattle.decl_core.specs.HoldForm.{HoldForm, EveryForm, RulesForm}
use Rattle.guest_core.specs.declared.hold_ends.HoldEnds.TheVariants.{ByDone}
use Rattle.guest_core.specs.Held.{HeldCall, AreHeld, MayUndo, KeepsHolds, hold_ended, is_loose}
use Rattle.guest_core.specs.Laws.{given, taken, held_by}
use Rattle.decl_read.specs.Holds.{IsRules}
use Rattle.live_core.specs.Scene.{Scene}
use Rattle.keep_loop.specs.Turns.{Turn}
use Rattle.client_core.specs.Custody.{Custody}
use Rattle.history_law.specs.Said.{Account}
use Rattle.table_core.specs.Seen.{seen}
use Rattle.table_core.specs.declared.table.Table.{Table}
use Rattle.history_law.specs.Kept.{Stood}
use Rattle.history_law.specs.Ended.{HoldsBy, EndsOver}

-- each operation that ends a hold ends that one, and what is called again and again ends none
pub record AreApart (rules : RulesForm) : Type 0 where
  pub own : (place : ℕ) (h : HoldForm) (k op : ℕ) → slice_get rules.holds place ≡ Some h → slice_get h.until k ≡ Some op → hold_ended rules.holds op ≡ Some place
  pub none : (place : ℕ) (e : EveryForm) → slice_get rules.everies place ≡ Some e → hold_ended rules.holds e.op ≡ None

-- So are rules that are read.
abbrev pub ReadAreApart : Type 0
ReadAreApart = (operations : List OperationForm) (ws : List Lexeme) (rules : RulesForm) → IsRules operations ws rules → AreApart rules

-- Each call that waits may still be made by its session, by what is held, and so could each one that ended, when it did. No
-- session has the number 0.
pub record Keeps (holds : List HoldForm) (waiting : List Called) (past : List Happened) (held : List HeldCall) : Type 0 where
  pub are : AreHeld holds past held
  pub kept : KeepsHolds ByDone holds past
  pub may : Every (λ (c : Called). MayUndo holds c.session c.operation c.arguments held) waiting
  pub waits : Every (λ (c : Called). c.session ≢ 0) waiting
  pub seated : Every (λ (h : HeldCall). h.session ≢ 0) held

-- So it is of the object at a place, by these rules.
pub record KeepsAt (t : Table) (j : ℕ) (rules : RulesForm) (past : List Happened) : Type 0 where
  pub scene : Scene
  pub at : slice_get t.objects.items j ≡ Some scene
  pub custody : Custody
  pub there : slice_get (seen t).custody j ≡ Some custody
  pub rules_are : custody.rules ≡ rules
  pub keeps : Keeps rules.holds scene.hall.waiting past custody.held

-- and so it is behind any turns
abbrev pub TurnsKeepHolds : Type 0
TurnsKeepHolds =
    (first last : Table) (turns : List Turn) (accounts : List Account) (j : ℕ) (o : ObjectForm) (rules : RulesForm) (past ends : List Happened) →
    AreApart rules → Stood first j o → KeepsAt first j rules past → EndsOver j first turns accounts last past ends → KeepsAt last j rules ends

-- What was taken is given back or held: of a hold that not everybody may end never more calls were done that end it than
-- calls were done that are held by it.
pub record GivenOnce (t : Table) (j : ℕ) (rules : RulesForm) (ends : List Happened) (r : ℕ) : Type 0 where
  pub holds : HoldsBy t j rules ends
  pub once : given ByDone rules.holds r ends + held_by r holds.custody.held ≡ taken rules.holds r ends
  pub never_more : given ByDone rules.holds r ends ≤ taken rules.holds r ends

abbrev pub TurnsGiveOnce : Type 0
TurnsGiveOnce =
    (first last : Table) (turns : List Turn) (accounts : List Account) (j : ℕ) (o : ObjectForm) (rules : RulesForm) (past ends : List Happened) (r : ℕ) →
    AreApart rules → Stood first j o → KeepsAt first j rules past → EndsOver j first turns accounts last past ends → is_loose rules.holds r ≡ false →
    GivenOnce last j rules ends r
