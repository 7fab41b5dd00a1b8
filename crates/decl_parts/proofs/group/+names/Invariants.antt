use Rattle.std.proofs.Common.{◌+◌, ◌*◌}
use Rattle.decl_parts.proofs.group.+names.Given as goal

abbrev pub decreases-names : goal.decreases-names
decreases-names l = l.left * 2

abbrev pub decreases-some_names : goal.decreases-some_names
decreases-some_names l = l.left * 2 + 1
