use Rattle.std.proofs.Common.{◌≡◌}
use Rattle.keep_loop.specs.Device.{IsTorn}
use Rattle.crash_trial.proofs.crash.tear.Given as goal

abbrev pub invariant-loop-place : goal.invariant-loop-place
invariant-loop-place l = IsTorn l.was l.fn.file l.file
