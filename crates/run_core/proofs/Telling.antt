-- What a run tells.
use Rattle.std.proofs.Common.{◌≡◌, List, refl, sym, subst}
use Rattle.device_core.specs.declared.hand.Stamp.{Stamp}
use Rattle.device_core.specs.Device.{Assignment}
use Rattle.apply_core.specs.declared.reply.Failure.TheVariants as failures
use Rattle.apply_core.specs.declared.reply.Reply.{Reply}
use Rattle.apply_core.specs.declared.reply.Reply.TheVariants.{Done, Refused, Failed}
use Rattle.page_core.specs.PartPins.{PartPin}
use Rattle.page_core.specs.CallPins.{Call}
use Rattle.page_core.specs.Truths.{IsTrueAt}
use Rattle.page_core.specs.Outcomes.{if_done}
use Rattle.run_core.specs.Phases.{IsRenewedBy}

-- what is true of the page lists that a run made is true of its new pins
pub pins_told : (a : Assignment) (call : Call) (reply : Reply) (news : List PartPin) → IsTrueAt a call reply news → IsTrueAt a call reply (if_done reply news)
pins_told a call (Done reply) news is = is
pins_told a call (Refused word) news is = (is.0, refl)
pins_told a call (Failed failures.Damaged) news is = is
pins_told a call (Failed failures.Device) news is = tt
pins_told a call (Failed failures.Memory) news is = tt

-- what is true of how a call ended is told by its outcome
pub told_of : (a : Assignment) (call of : Call) (reply told : Reply) (news left : List PartPin) → of ≡ call → told ≡ reply → left ≡ news → IsTrueAt a call reply news → IsTrueAt a of told (if_done told left)
told_of a call of reply told news left is same all true =
    subst (λ c. IsTrueAt a c told (if_done told left)) (sym is) (subst (λ r. IsTrueAt a call r (if_done r left)) (sym same) (subst (λ (n : List PartPin). IsTrueAt a call reply (if_done reply n)) (sym all) (pins_told a call reply news true)))

pub renewed_of : (a : Assignment) (call of : Call) (reply told : Reply) (sealed sealed1 : List Stamp) (news news1 : List PartPin) (gone gone1 : List Stamp) → of ≡ call → told ≡ reply → sealed1 ≡ sealed → news1 ≡ news → gone1 ≡ gone
    → IsRenewedBy a call reply sealed news gone → IsRenewedBy a of told sealed1 news1 gone1
renewed_of a call of reply told sealed sealed1 news news1 gone gone1 is same files lists old true =
    subst (λ c. IsRenewedBy a c told sealed1 news1 gone1) (sym is)
    (subst (λ r. IsRenewedBy a call r sealed1 news1 gone1) (sym same)
    (subst (λ (s : List Stamp). IsRenewedBy a call reply s news1 gone1) (sym files)
    (subst (λ (n : List PartPin). IsRenewedBy a call reply sealed n gone1) (sym lists)
    (subst (λ (g : List Stamp). IsRenewedBy a call reply sealed news g) (sym old) true))))
