use Rattle.std.proofs.Common.{◌-◌}
use Rattle.run_core.proofs.at_once.+read_from.Given as goal

abbrev pub decreases-read_from : goal.decreases-read_from
decreases-read_from g l = 16 - l.from
