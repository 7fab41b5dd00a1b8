-- What a crash leaves is an older part of what happened.
use Rattle.std.specs.Prelude.{◌≡◌, ◌≢◌, ℕ, List, [], ◌++◌, Some, slice_get}
use Rattle.decl_core.specs.ObjectForm.{ObjectForm}
use Rattle.word_core.specs.Events.{Happened}
use Rattle.live_core.specs.Front.{Opening}
use Rattle.live_core.specs.Hall.{Every}
use Rattle.decl_core.specs.HoldForm.{RulesForm}
use Rattle.guest_core.specs.declared.hold_ends.HoldEnds.TheVariants.{ByDone}
use Rattle.guest_core.specs.Held.{HeldCall, KeepsHolds}
use Rattle.recover_core.specs.declared.recover.House.{House}
use Rattle.recover_core.specs.declared.recover.Recovered.{Recovered}
use Rattle.recover_core.specs.Recovered.{IsBehind}
use Rattle.live_core.specs.Scene.{Scene}
use Rattle.keep_loop.specs.Turns.{Turn, added_by}
use Rattle.history_law.specs.Said.{Account}
use Rattle.table_core.specs.declared.table.Table.{Table}
use Rattle.history_law.specs.Kept.{IsServed}
use Rattle.history_law.specs.Ended.{ends_of, EndsOver, HoldsBy}
use Rattle.history_law.specs.Keeps.{KeepsAt}

-- An object stands behind a front and begins no epoch in these turns. What is recovered of the first bytes that they have
-- added is the first of what happened in them: all else that ended did so later.
abbrev pub RecoveredIsOlder : Type 0
RecoveredIsOlder =
    (first last : Table) (turns : List Turn) (accounts : List Account) (j : ℕ) (o : ObjectForm) (f : Opening) (past ends : List Happened) (found lost : List ℕ)
    (served : IsServed first j o f turns) → EndsOver j first turns accounts last past ends → added_by j turns ≡ found ++ lost →
    (h : House) (bytes : ℕ) (r : Recovered) (b : IsBehind o h f bytes found r) → (later : List Happened) × (ends ≡ later ++ (ends_of served.scene b.steps ++ past))

-- An object of a new life, of which no call waits, holds what was left of a history of which only later calls are lost: of it
-- is kept what was kept of that.
abbrev pub LifeKeepsHolds : Type 0
LifeKeepsHolds =
    (t : Table) (j : ℕ) (rules : RulesForm) (later past : List Happened) (s : Scene) → KeepsHolds ByDone rules.holds (later ++ past) →
    slice_get t.objects.items j ≡ Some s → s.hall.waiting ≡ [] → (h : HoldsBy t j rules past) → Every (λ (c : HeldCall). c.session ≢ 0) h.custody.held → KeepsAt t j rules past
