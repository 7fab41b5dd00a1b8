use Rattle.std.proofs.Common.{length}
use Rattle.decl_read.proofs.rules.+all_rules.Given as goal

abbrev pub decreases-all_rules : goal.decreases-all_rules
decreases-all_rules l = length l.objects.now
