use Rattle.std.proofs.Common.{length}
use Rattle.front_read.proofs.read.+take_parts.Given as goal

abbrev pub decreases-take_parts : goal.decreases-take_parts
decreases-take_parts l = length l.parts.now
