-- Objects that keep that, turn by turn.
use Rattle.std.proofs.Common.{◌≡◌, ◌∙◌, ap, sym, subst, refl, arith, ℕ, List, [], ◌∷◌, eqb-true}
use Rattle.std.specs.Prelude.{Bool, true, false, ◌==◌, Some, slice_get, slice_set}
use Rattle.std.proofs.lemmas.Bool.{eqb-false}
use Rattle.std.proofs.lemmas.Option.{same_Some}
use Rattle.decl_core.specs.ObjectForm.{ObjectForm}
use Rattle.live_core.specs.Epochs.{numbered_from}
use Rattle.audit_core.specs.Steps.{nothing_heard}
use Rattle.live_core.specs.Scene.{Scene}
use Rattle.history_law.specs.Happens.{all_happen}
use Rattle.history_law.specs.Stands.{Stands}
use Rattle.history_law.specs.Told.{heard_of}
use Rattle.history_law.proofs.Beginning.{followed_begun}
use Rattle.history_law.proofs.WrittenTelling.{steps_are_told}
use Rattle.keep_loop.specs.Texts.{to}
use Rattle.keep_loop.specs.Turns.{Asked}
use Rattle.keep_loop.specs.Turns.Asked.{Heard, Noted, Changes}
use Rattle.client_core.specs.Deeds.{Texts}
use Rattle.table_core.specs.Moves.{Gives}
use Rattle.table_core.specs.declared.table.Table.{Table}
use Rattle.history_law.proofs.KeptGoing.{Went, one_went, set_at}
use Rattle.history_law.specs.LifeKeeps.{Keeps, KeepsAt, ObjectsKeep}
use Rattle.history_law.proofs.LifeKeeping.{steps_keep, followed_keeps}

-- an object that went by steps keeps it
keeps_went : (old new : Table) (j : ℕ) (o : ObjectForm) (k : KeepsAt old j o) (lines : List ℕ) → Went j k.stood.scene lines new.objects.items → KeepsAt new j o
keeps_went old new j o k lines went =
    let s = k.stood in
    let told = steps_are_told o s.begun s.heard s.scene went.0 lines went.2 s.names s.stands in
    record {
      stood = record {
        scene = went.0;
        there = went.1;
        names = s.names;
        begun = s.begun;
        heard = heard_of (all_happen went.2 s.heard.steps);
        stands = told.stands;
      };
      keeps = steps_keep o s.begun s.heard s.scene went.0 lines went.2 s.names s.stands k.keeps;
    }

-- so does one that begins its next epoch
keeps_changes : (old new : Table) (journal : ℕ) (front : List ℕ) (said added : Texts) (j : ℕ) (o : ObjectForm) →
    Gives old (Changes journal front true) said added new → KeepsAt old j o → KeepsAt new j o
keeps_changes old new journal front said added j o gives k = by (journal == j) refl
  where
    by : (b : Bool) → (journal == j) ≡ b → KeepsAt new j o
    by false other = keeps_went old new j o k (to j added)
        (one_went old new (Changes journal front true) said added j k.stood.scene gives (λ e. absurd (let apart = eqb-false journal j other in omega (arith, apart, e))) k.stood.there)
    by true same =
        let s = k.stood in
        let begins = gives.2.begins in
        let at : journal ≡ j = eqb-true journal j same in
        let there : slice_get old.objects.items j ≡ Some begins.before = subst (λ n. slice_get old.objects.items n ≡ Some begins.before) at begins.there in
        let is : s.scene ≡ begins.before = same_Some s.scene begins.before (sym s.there ∙ there) in
        let stands = followed_begun o s.begun s.heard begins.before begins.after begins.after.past (subst (λ (x : Scene). Stands o s.begun s.heard x) is s.stands) begins.begun.followed in
        record {
          stood = record {
            scene = begins.after;
            there = ap (λ (l : List Scene). slice_get l j) begins.left ∙ ap (λ n. slice_get (slice_set old.objects.items n begins.after) j) at
                ∙ set_at old.objects.items j begins.after begins.before there;
            names = s.names;
            begun = record { past = begins.after.past; opening = begins.before.hall.contents; carried = numbered_from 0 begins.before.hall.waiting };
            heard = nothing_heard;
            stands = stands;
          };
          keeps = followed_keeps o begins.before begins.after begins.after.past begins.begun.followed (subst (λ (x : Scene). Keeps o x) is k.keeps);
        }

pub keeps_one : (old new : Table) (asked : Asked) (said added : Texts) (j : ℕ) (o : ObjectForm) → Gives old asked said added new → KeepsAt old j o → KeepsAt new j o
keeps_one old new (Heard who line end) said added j o gives k = keeps_went old new j o k (to j added) (one_went old new (Heard who line end) said added j k.stood.scene gives tt k.stood.there)
keeps_one old new (Noted note) said added j o gives k = keeps_went old new j o k (to j added) (one_went old new (Noted note) said added j k.stood.scene gives tt k.stood.there)
keeps_one old new (Changes journal front true) said added j o gives k = keeps_changes old new journal front said added j o gives k
keeps_one old new (Changes journal front false) said added j o gives k =
    keeps_went old new j o k (to j added) (one_went old new (Changes journal front false) said added j k.stood.scene gives tt k.stood.there)

pub objects_keep : ObjectsKeep
objects_keep first last [] j o runs k = subst (λ (t : Table). KeepsAt t j o) (sym runs) k
objects_keep first last (t ∷ turns) j o (mid, gives, runs) k = objects_keep mid last turns j o runs (keeps_one first mid t.asked t.said t.added j o gives k)
