use Rattle.std.proofs.Common.{◌≡◌, ◌<◌, ℕ, Some}
use Rattle.std.specs.Prelude.{◌≢◌, slice_get}
use Rattle.guest_core.specs.declared.guest.Guest.{Guest}
use Rattle.guest_core.specs.Guests.{IsNamed}
use Rattle.client_core.specs.declared.holder.Holder.{Holder}
use Rattle.client_core.specs.declared.holder.WhenDue.TheVariants.{Waits}
use Rattle.client_core.proofs.away.is_busy_by.Given as goal

abbrev pub invariant-loop-place : goal.invariant-loop-place
invariant-loop-place l = (k : ℕ) (h : Holder) → k < l.place → slice_get l.gone k ≡ Some h → h.when ≡ Waits → (p : ℕ) (g : Guest) → IsNamed l.guests h.session p g → g.name ≢ l.name
