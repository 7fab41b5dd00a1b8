-- A call that is cancelled, and the one of which a number was told.
use Rattle.std.proofs.Common.{◌≡◌, ◌≢◌, ◌∙◌, ap, sym, subst, arith, ℕ, zero, suc, List, [], ◌∷◌, ◌++◌}
use Rattle.std.specs.Prelude.{Some, slice_get}
use Rattle.std.proofs.lemmas.Option.{same_Some}
use Rattle.word_core.specs.Events.{Called}
use Rattle.live_core.specs.Hall.{Told, Every, EachPair, IsHeld}
use Rattle.live_core.specs.Calls.{Cancels}
use Rattle.live_core.specs.Keys.{WaitsAs}
use Rattle.live_core.specs.Scene.{Scene, told_of}
use Rattle.client_core.specs.Laws.{CancelledIsAsked}

every_at : (P : Called → Type 0) (xs : List Called) (k : ℕ) (c : Called) → Every P xs → slice_get xs k ≡ Some c → P c
every_at P [] k c all is = absurd (grind (arith, is))
every_at P (x ∷ xs) zero c all is = subst P (same_Some x c is) all.0
every_at P (x ∷ xs) (suc k) c all is = every_at P xs k c all.1 is

every_in : (P : Called → Type 0) (front behind : List Called) (c : Called) → Every P (front ++ c ∷ behind) → P c
every_in P [] behind c all = all.0
every_in P (x ∷ front) behind c all = every_in P front behind c all.1

-- no other one is of its session
only_one : (front behind : List Called) (c d : Called) (k : ℕ) → EachPair (λ (a b : Called). a.session ≢ b.session) (front ++ c ∷ behind) →
    slice_get (front ++ c ∷ behind) k ≡ Some d → d.session ≡ c.session → d ≡ c
only_one [] behind c d zero each is same = sym (same_Some c d is)
only_one [] behind c d (suc k) each is same = absurd (every_at (λ b. c.session ≢ b.session) behind k d each.0 is (sym same))
only_one (x ∷ front) behind c d zero each is same =
    let d_is : x ≡ d = same_Some x d is in
    absurd (every_in (λ b. x.session ≢ b.session) front behind c each.0 (ap (λ (z : Called). z.session) d_is ∙ same))
only_one (x ∷ front) behind c d (suc k) each is same = only_one front behind c d k each.1 is same

-- the one that waits no more is the one that waits by this number
the_one : (object after : Scene) (session told number : ℕ) (line : List ℕ) → WaitsAs object session told → Cancels object session number [] line after →
    (t : Told) → IsHeld object.hall t → number ≡ told
the_one object after session told number line waits cancels t held =
    let left = cancels.lets_go.left in
    let each = subst (EachPair (λ (a b : Called). a.session ≢ b.session)) left.waited held.kept.one_each in
    let there : slice_get (left.front ++ cancels.call ∷ left.behind) waits.place ≡ Some waits.call =
    subst (λ (ws : List Called). slice_get ws waits.place ≡ Some waits.call) left.waited waits.there in
    let same : waits.call ≡ cancels.call =
    only_one left.front left.behind cancels.call waits.call waits.place each there (waits.of ∙ sym cancels.lets_go.of) in
    cancels.told_is t held ∙ ap (λ (c : Called). told_of object c.number) (sym same) ∙ waits.told_is

pub cancelled_is_asked : CancelledIsAsked
cancelled_is_asked place told old new said added c t held =
    let gone = c.lets_go in
    let same : c.object ≡ gone.object = same_Some c.object gone.object (sym c.there ∙ gone.there) in
    the_one gone.object gone.after c.session told c.number gone.line (subst (λ (o : Scene). WaitsAs o c.session told) same c.waits) gone.cancels t
    (subst (λ (o : Scene). IsHeld o.hall t) same held)
