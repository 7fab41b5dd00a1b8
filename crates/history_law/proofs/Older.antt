-- What is recovered is an older part of what happened.
use Rattle.std.proofs.Common.{◌≡◌, ◌≢◌, ◌∙◌, ap, sym, subst, arith, ℕ, ◌<◌, List, [], ◌∷◌, ◌++◌, length, append_assoc}
use Rattle.std.specs.Prelude.{true, false, Some, slice_get}
use Rattle.std.proofs.lemmas.Option.{same_Some, slice_get_within}
use Rattle.word_core.specs.Events.{Called, Happened, began, ended}
use Rattle.live_core.specs.Hall.{Every}
use Rattle.decl_core.specs.HoldForm.{HoldForm}
use Rattle.guest_core.specs.declared.hold_ends.HoldEnds.TheVariants.{ByDone}
use Rattle.guest_core.specs.Held.{MayUndo, KeepsHolds}
use Rattle.audit_core.specs.Steps.{Step}
use Rattle.live_core.specs.Scene.{Scene}
use Rattle.live_core.specs.HostedSteps.{Steps, rests, goes_on}
use Rattle.history_law.specs.Happens.{all_happen}
use Rattle.history_law.specs.WrittenRead.{Adds}
use Rattle.history_law.proofs.WrittenReading.{front_is_read}
use Rattle.keep_loop.specs.Texts.{to}
use Rattle.keep_loop.specs.Turns.{Asked, Turn, added_by}
use Rattle.keep_loop.specs.Turns.Asked.{Heard, Noted, Changes}
use Rattle.keep_loop.specs.Epochs.{BeginsNot, BeginsNone}
use Rattle.client_core.specs.Deeds.{Texts}
use Rattle.client_core.specs.State.{State}
use Rattle.history_law.specs.Said.{Account, AllWent, SaysIn}
use Rattle.history_law.proofs.Going.{all_more, all_alike}
use Rattle.table_core.specs.Moves.{Gives}
use Rattle.table_core.specs.Seen.{seen}
use Rattle.table_core.specs.declared.table.Table.{Table}
use Rattle.history_law.proofs.KeptGoing.{get_at, set_other}
use Rattle.history_law.specs.Ended.{ends_of, EndsOver}
use Rattle.history_law.specs.Older.{RecoveredIsOlder, LifeKeepsHolds}
use Rattle.history_law.proofs.TurnHolding.{ends_both, ends_alike}

-- an object went by steps in a turn in which it begins no epoch
record WentBy (new : Table) (j : ℕ) (s : Scene) (lines : List ℕ) (steps : List Step) : Type 0 where
  scene : Scene
  there : slice_get new.objects.items j ≡ Some scene
  goes : Steps s lines scene
  is : steps ≡ all_happen goes []

all_went : (old new : Table) (added : Texts) (a : Account) (j : ℕ) (s : Scene) → AllWent old.objects.items added a new.objects.items → slice_get old.objects.items j ≡ Some s → WentBy new j s (to j added) (a j)
all_went old new added a j s went there =
    let within : j < length new.objects.items = let at = slice_get_within old.objects.items j s there in let long = went.count in omega (arith, at, long) in
    let k = get_at new.objects.items j within in
    let one = went.each j s k.0 there k.1 in
    record { scene = k.0; there = k.1; goes = one.0; is = one.1 }

still_went : (new : Table) (added : Texts) (j : ℕ) (s : Scene) (steps : List Step) → slice_get new.objects.items j ≡ Some s → added ≡ [] → steps ≡ [] → WentBy new j s (to j added) steps
still_went new added j s steps there none nothing =
    subst (λ (a : Texts). WentBy new j s (to j a) steps) (sym none) (record { scene = s; there = there; goes = rests; is = nothing })

turn_went : (old new : Table) (asked : Asked) (said added : Texts) (a : Account) (j : ℕ) (s : Scene) → Gives old asked said added new → SaysIn (seen old) asked said added a (seen new) → BeginsNot j asked →
    slice_get old.objects.items j ≡ Some s → WentBy new j s (to j added) (a j)
turn_went old new (Heard who line end) said added a j s gives says none there = all_went old new added a j s says.went there
turn_went old new (Noted note) said added a j s gives says none there = all_went old new added a j s says.went there
turn_went old new (Changes journal front true) said added a j s gives says none there =
    still_went new added j s (a j) (ap (λ (l : List Scene). slice_get l j) gives.2.begins.left ∙ set_other old.objects.items journal j gives.2.begins.after none ∙ there) gives.1 (says.1 j)
turn_went old new (Changes journal front false) said added a j s gives says none there =
    still_went new added j s (a j) (ap (λ (x : State). slice_get x.objects j) gives.left ∙ there) gives.lines (says.1 j)

-- so in many
record WentOver (last : Table) (j : ℕ) (s : Scene) (lines : List ℕ) (past ends : List Happened) : Type 0 where
  scene : Scene
  goes : Steps s lines scene
  are : ends ≡ ends_of s (all_happen goes []) ++ past

over_went : (first last : Table) (turns : List Turn) (accounts : List Account) (j : ℕ) (s : Scene) (past ends : List Happened) → BeginsNone j turns → slice_get first.objects.items j ≡ Some s →
    EndsOver j first turns accounts last past ends → WentOver last j s (added_by j turns) past ends
over_went first last [] [] j s past ends none there over = record { scene = s; goes = rests; are = over.1 }
over_went first last [] (a ∷ accounts) j s past ends none there over = absurd over
over_went first last (t ∷ turns) [] j s past ends none there over = absurd over
over_went first last (t ∷ turns) (a ∷ accounts) j s past ends none there (mid, gives, says, was, here, over) =
    let same : was ≡ s = same_Some was s (sym here ∙ there) in
    let one = turn_went first mid t.asked t.said t.added a j s gives says none.0 there in
    let on = over_went mid last turns accounts j one.scene (ends_of was (a j) ++ past) ends none.1 one.there over in
    let more = all_happen on.goes [] in
    record {
      scene = on.scene;
      goes = goes_on one.goes on.goes;
      are = on.are
          ∙ ap (λ (l : List Happened). l ++ (ends_of was (a j) ++ past)) (ends_alike s one.scene more (all_alike s one.scene (to j t.added) one.goes))
          ∙ ap (λ (x : Scene). ends_of s more ++ (ends_of x (a j) ++ past)) same
          ∙ sym (append_assoc (ends_of s more) (ends_of s (a j)) past)
          ∙ ap (λ (l : List Happened). l ++ past) (sym (ends_both s more (a j)))
          ∙ ap (λ (l : List Step). ends_of s (more ++ l) ++ past) one.is
          ∙ ap (λ (l : List Step). ends_of s l ++ past) (sym (all_more one.scene on.scene (added_by j turns) on.goes (all_happen one.goes [])));
    }

pub recovered_is_older : RecoveredIsOlder
recovered_is_older first last turns accounts j o f past ends found lost served over cut h bytes r b =
    let s = served.scene in
    let went = over_went first last turns accounts j s past ends served.goes_on served.there over in
    let adds : Adds o f (added_by j turns) = record { names = served.names; old = s; new = went.scene; all = went.goes; stands = served.stands } in
    let read = front_is_read o h f bytes (added_by j turns) found lost r adds cut b in (
      ends_of s read.0,
      went.are ∙ ap (λ (l : List Step). ends_of s l ++ past) read.1 ∙ ap (λ (l : List Happened). l ++ past) (ends_both s read.0 b.steps)
          ∙ append_assoc (ends_of s read.0) (ends_of s b.steps) past,
    )

-- of an older part each call could be made that ended
older_keeps : (holds : List HoldForm) (later past : List Happened) → KeepsHolds ByDone holds (later ++ past) → KeepsHolds ByDone holds past
older_keeps holds [] past k = k
older_keeps holds (began c ∷ later) past k = older_keeps holds later past k
older_keeps holds (ended c reply ∷ later) past k = older_keeps holds later past k.0

pub life_keeps_holds : LifeKeepsHolds
life_keeps_holds t j rules later past s k at none h seated = record {
  scene = s;
  at = at;
  custody = h.custody;
  there = h.there;
  rules_are = h.rules_are;
  keeps = record {
    are = h.are;
    kept = older_keeps rules.holds later past k;
    may = subst (λ (l : List Called). Every (λ (c : Called). MayUndo rules.holds c.session c.operation c.arguments h.custody.held) l) (sym none) tt;
    waits = subst (λ (l : List Called). Every (λ (c : Called). c.session ≢ 0) l) (sym none) tt;
    seated = seated;
  };
}
