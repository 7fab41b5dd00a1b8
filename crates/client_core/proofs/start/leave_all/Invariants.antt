use Rattle.std.proofs.Common.{◌≢◌, ℕ, [], Some}
use Rattle.std.specs.Prelude.{All, slice_get}
use Rattle.guest_core.specs.declared.seats.SeatHolder.TheVariants.{Free}
use Rattle.live_core.specs.HostedSteps.{Steps}
use Rattle.client_core.proofs.start.leave_all.Given as goal

abbrev pub invariant-loop-place : goal.invariant-loop-place
invariant-loop-place l = Steps l.initial.hosted [] l.hosted × ((s : ℕ) → All (λ (o : ℕ). s ≢ o) l.others → slice_get l.initial.hosted.guests.seats s ≢ Some Free → slice_get l.hosted.guests.seats s ≢ Some Free)
