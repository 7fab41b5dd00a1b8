-- What a call writes at once, and what it tells.
use Rattle.std.proofs.Common.{◌≡◌, ℕ, suc, ◌<◌, List, [], ◌∷◌, length, Option, Some, refl, ◌∙◌, arith}
use Rattle.std.specs.Prelude.{slice_get, slice_set}
use Rattle.value_core.specs.declared.datum.Datum.{Datum}
use Rattle.device_core.specs.declared.hand.HandFault.{HandFault}
use Rattle.device_core.specs.declared.hand.HandFault.TheVariants.{Device, Memory}
use Rattle.device_core.specs.declared.hand.Stamp.{Stamp}
use Rattle.device_core.specs.Device.{Assignment}
use Rattle.apply_core.specs.declared.reply.Failure.{Failure}
use Rattle.apply_core.specs.declared.reply.Failure.TheVariants as failures
use Rattle.apply_core.specs.declared.reply.Reply.TheVariants as replies
use Rattle.page_core.specs.declared.plan.PageWrite.{PageWrite}
use Rattle.page_core.specs.Laws.{no_part as no_row}
use Rattle.page_core.specs.PartPins.{PartPin}
use Rattle.page_core.specs.Renewed.{with_sealed, ArePlaces}
use Rattle.page_core.proofs.Renewing.{set_long}
use Rattle.page_core.specs.Given.{IsDamaged}
use Rattle.page_core.specs.CallPins.{Call}
use Rattle.run_core.specs.CallPlanned.{IsPlanned, no_part}
use Rattle.page_core.specs.Truths.{PinHolds, IsTrueAt}
use Rattle.run_core.specs.SeenLaws.{IsPlanOf}
use Rattle.run_core.specs.Phases.{failure_of, IsRenewedBy}
use Rattle.run_core.proofs.Writing.{all_left}

pub all_places : (count : ℕ) (writes : List PageWrite) → ((k : ℕ) (write : PageWrite) → slice_get writes k ≡ Some write → write.place < count) → ArePlaces count writes
all_places count [] each = tt
all_places count (write ∷ writes) each = (each 0 write refl, all_places count writes (λ k w is. each (suc k) w is))

pub sealed_long : (stamps : List Stamp) (writes : List PageWrite) (sealed : List Stamp) → length (with_sealed stamps writes sealed) ≡ length stamps
sealed_long stamps [] sealed = refl
sealed_long stamps (write ∷ writes) [] = refl
sealed_long stamps (write ∷ writes) (stamp ∷ sealed) = sealed_long (slice_set stamps write.place stamp) writes sealed ∙ set_long stamps write.place stamp

-- the plan of no change
pub no_plan : (pins : List PartPin) (read : List (List ℕ)) → IsPlanned pins read [] [] [] [] []
no_plan pins read = record { parts = []; renewals = no_part; plans = no_row }

-- a call that changed nothing
pub none_changed : (a : Assignment) (call : Call) (reply : Option Datum) → IsPlanOf a call reply [] [] [] [] → IsTrueAt a call (replies.Done reply) [] × IsRenewedBy a call (replies.Done reply) [] [] []
none_changed a call reply plan = all_left a call reply plan.read plan.changes [] [] [] [] [] [] plan.planned plan.order plan.known plan.given tt (omega arith) refl

-- a failure for a fault is true
pub fault_is_true : (a : Assignment) (call : Call) (fault : HandFault) (news : List PartPin) → IsTrueAt a call (replies.Failed (failure_of fault)) news
fault_is_true a call Device news = tt
fault_is_true a call Memory news = tt

-- what a call tells that failed when it read
pub failure_is_true : (a : Assignment) (call : Call) (failure : Failure) (news : List PartPin) → (failure ≡ failures.Damaged → IsDamaged (PinHolds a call.pins) call.operation) → IsTrueAt a call (replies.Failed failure) news
failure_is_true a call failures.Damaged news damaged = damaged refl
failure_is_true a call failures.Device news damaged = tt
failure_is_true a call failures.Memory news damaged = tt
