use Rattle.std.proofs.Common.{◌≡◌, drop}
use Rattle.check_core.specs.Lines.{some_lost}
use Rattle.check_core.proofs.lines.is_losing.Given as goal

abbrev pub invariant-loop-finding : goal.invariant-loop-finding
invariant-loop-finding l = some_lost (drop l.finding-index l.each) ≡ some_lost l.each
