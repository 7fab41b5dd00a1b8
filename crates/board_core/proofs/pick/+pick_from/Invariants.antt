use Rattle.std.proofs.Common.{◌-◌, length}
use Rattle.board_core.proofs.pick.+pick_from.Given as goal

abbrev pub decreases-pick_from : goal.decreases-pick_from
decreases-pick_from l = length l.free.now.items - l.at
