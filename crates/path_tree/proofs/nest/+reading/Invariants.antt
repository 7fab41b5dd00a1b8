use Rattle.std.proofs.Common.{◌+◌, ◌*◌}
use Rattle.path_tree.proofs.nest.+reading.Given as goal

abbrev pub decreases-list : goal.decreases-list
decreases-list l = l.depth * 300000 + 140000 + l.left

abbrev pub decreases-sequence : goal.decreases-sequence
decreases-sequence l = l.depth * 300000 + 7 + l.left

abbrev pub decreases-item : goal.decreases-item
decreases-item l = l.depth * 300000 + 6

abbrev pub decreases-named : goal.decreases-named
decreases-named l = l.depth * 300000 + 5

abbrev pub decreases-bounded : goal.decreases-bounded
decreases-bounded l = l.depth * 300000 + 4

abbrev pub decreases-opened : goal.decreases-opened
decreases-opened l = l.depth * 300000 + 4

abbrev pub decreases-group : goal.decreases-group
decreases-group l = l.depth * 300000 + 3

abbrev pub decreases-burst : goal.decreases-burst
decreases-burst l = l.depth * 300000 + 3

abbrev pub decreases-nested : goal.decreases-nested
decreases-nested l = l.depth * 300000 + 2
