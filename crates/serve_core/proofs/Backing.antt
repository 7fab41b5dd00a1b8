-- Receipts that hands show to be true.
use Rattle.std.proofs.Common.{◌≡◌, sym, subst, List, [], ◌∷◌, ◌++◌, Result, Ok, Err}
use Rattle.std.specs.Prelude.{OnOk, OnErr}
use Rattle.std.specs.declared.alloc.AllocError.{AllocError}
use Rattle.device_core.specs.Device.{Assignment}
use Rattle.page_core.specs.Lists.{Every}
use Rattle.office_core.specs.Slips.{Told, IsTrueTold}
use Rattle.session_core.specs.Truth.{AreTrue}
use Rattle.serve_core.specs.Backed.{AreBackedBy}

every_then : {X : Type 0} (P : X → Type 0) (xs ys : List X) → Every P xs → Every P ys → Every P (xs ++ ys)
every_then P [] ys first second = second
every_then P (x ∷ xs) ys (here, first) second = (here, every_then P xs ys first second)

front_of_every : {X : Type 0} (P : X → Type 0) (xs ys : List X) → Every P (xs ++ ys) → Every P xs
front_of_every P [] ys all = tt
front_of_every P (x ∷ xs) ys (here, all) = (here, front_of_every P xs ys all)

last_of_every : {X : Type 0} (P : X → Type 0) (xs : List X) (y : X) → Every P (xs ++ y ∷ []) → P y
last_of_every P [] y (here, all) = here
last_of_every P (x ∷ xs) y (here, all) = last_of_every P xs y all

-- the same receipts, by hands in another spelling
pub backed_as : {H : Type 0} (agrees : H → Assignment → Type 0) (hands others : List H) (slips : List Told) → others ≡ hands → AreBackedBy agrees hands slips → AreBackedBy agrees others slips
backed_as {H = H} agrees hands others slips same backed = subst (λ (hs : List H). AreBackedBy agrees hs slips) (sym same) backed

-- receipts of one more hand were put behind, or they were not
pub backed_more : {H : Type 0} (agrees : H → Assignment → Type 0) (slips more after : List Told) (hands : List H) (hand : H) (result : Result (Unit {0}) AllocError) →
    OnOk result (after ≡ slips ++ more) → OnErr result (after ≡ slips) → AreBackedBy agrees hands slips → AreTrue agrees hand more → AreBackedBy agrees (hands ++ hand ∷ []) after
backed_more {H = H} agrees slips more after hands hand (Ok done) ok err backed hold = λ a all.
    let agree : H → Type 0 = λ (h : H). agrees h a in
    subst (Every (IsTrueTold a)) (sym ok) (every_then (IsTrueTold a) slips more (backed a (front_of_every agree hands (hand ∷ []) all)) (hold a (last_of_every agree hands hand all)))
backed_more {H = H} agrees slips more after hands hand (Err why) ok err backed hold = λ a all.
    let agree : H → Type 0 = λ (h : H). agrees h a in
    subst (Every (IsTrueTold a)) (sym err) (backed a (front_of_every agree hands (hand ∷ []) all))
