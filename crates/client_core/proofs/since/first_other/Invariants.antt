use Rattle.std.proofs.Common.{◌≡◌, take}
use Rattle.client_core.specs.Since.{numbers_known, numbers_of}
use Rattle.client_core.proofs.since.first_other.Given as goal

abbrev pub invariant-loop-place : goal.invariant-loop-place
invariant-loop-place l = take l.place (numbers_known l.rows) ≡ take l.place (numbers_of l.held)
