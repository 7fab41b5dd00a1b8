-- Calls that wait, each of a session of its own.
use Rattle.std.proofs.Common.{◌≡◌, ◌≢◌, ◌∙◌, ap, sym, subst, arith, ℕ, zero, suc, List, [], ◌∷◌, ◌++◌}
use Rattle.std.specs.Prelude.{Some, slice_get}
use Rattle.std.proofs.lemmas.Option.{same_Some}
use Rattle.word_core.specs.Events.{Called}
use Rattle.live_core.specs.Hall.{Hall, Told, Every, EachPair, IsHeld}
use Rattle.live_core.specs.Steps.{Leaves}
use Rattle.live_core.specs.Calls.{LetsGo, TellsCancel, Cancels, IsCancelLine}
use Rattle.live_core.specs.Scene.{Scene, told_of}

every_at : (P : Called → Type 0) (xs : List Called) (k : ℕ) (c : Called) → Every P xs → slice_get xs k ≡ Some c → P c
every_at P [] k c all is = absurd (grind (arith, is))
every_at P (x ∷ xs) zero c all is = subst P (same_Some x c is) all.0
every_at P (x ∷ xs) (suc k) c all is = every_at P xs k c all.1 is

every_in : (P : Called → Type 0) (front behind : List Called) (c : Called) → Every P (front ++ c ∷ behind) → P c
every_in P [] behind c all = all.0
every_in P (x ∷ front) behind c all = every_in P front behind c all.1

-- no other one is of its session
only_one : (front behind : List Called) (c d : Called) (k : ℕ) → EachPair (λ (a b : Called). a.session ≢ b.session) (front ++ c ∷ behind) →
    slice_get (front ++ c ∷ behind) k ≡ Some d → d.session ≡ c.session → d ≡ c
only_one [] behind c d zero each is same = sym (same_Some c d is)
only_one [] behind c d (suc k) each is same = absurd (every_at (λ b. c.session ≢ b.session) behind k d each.0 is (sym same))
only_one (x ∷ front) behind c d zero each is same =
    let d_is : x ≡ d = same_Some x d is in
    absurd (every_in (λ b. x.session ≢ b.session) front behind c each.0 (ap (λ (z : Called). z.session) d_is ∙ same))
only_one (x ∷ front) behind c d (suc k) each is same = only_one front behind c d k each.1 is same

-- none waits of a session of which one waits
pub some_waits : (waiting : List Called) (session k : ℕ) (c : Called) → slice_get waiting k ≡ Some c → c.session ≡ session →
    Every (λ (d : Called). d.session ≢ session) waiting → ⊥
some_waits waiting session k c there of none = every_at (λ d. d.session ≢ session) waiting k c none there of

-- the one that waits no more is the one of which it was told
the_one : (old new : Hall) (c d : Called) (session k : ℕ) → slice_get old.waiting k ≡ Some d → d.session ≡ session →
    c.session ≡ session → Leaves old c new → (t : Told) → IsHeld old t → d ≡ c
the_one old new c d session k there of same left t held =
    let each = subst (EachPair (λ (a b : Called). a.session ≢ b.session)) left.waited held.kept.one_each in
    let there2 : slice_get (left.front ++ c ∷ left.behind) k ≡ Some d = subst (λ (ws : List Called). slice_get ws k ≡ Some d) left.waited there in
    only_one left.front left.behind c d k each there2 (of ∙ sym same)

pub cancelled_by : (old first new : Scene) (session : ℕ) (found : ℕ × ℕ) (before after : List ℕ) → TellsCancel old session before (Some found) after →
    first ≡ old → (c : Called) × LetsGo first session found.0 c new → Cancels old session found.0 before after new
cancelled_by old first new session found before after tells same_first gone = record {
  call = c;
  lets_go = goes;
  lines = tells.4.0;
  added = tells.4.1;
  told_is = λ t held. tells.3 ∙ ap (λ (x : Called). told_of old x.number) (same t held);
  line = λ t held. subst (λ (x : Called). IsCancelLine old session x tells.4.0) (same t held) tells.4.2;
}
  where
    c : Called
    c = gone.0

    goes : LetsGo old session found.0 c new
    goes = subst (λ (s : Scene). LetsGo s session found.0 c new) same_first gone.1

    same : (t : Told) → IsHeld old.hall t → tells.0 ≡ c
    same t held = the_one old.hall new.hall c tells.0 session tells.1.0 tells.1.1 tells.2 goes.of goes.left t held

-- it was told of a call, so one waits
pub not_told : (old : Scene) (session : ℕ) (found : ℕ × ℕ) (before after : List ℕ) → TellsCancel old session before (Some found) after →
    Every (λ (d : Called). d.session ≢ session) old.hall.waiting → ⊥
not_told old session found before after tells none = some_waits old.hall.waiting session tells.1.0 tells.0 tells.1.1 tells.2 none
