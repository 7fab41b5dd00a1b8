use Rattle.std.proofs.Common.{length}
use Rattle.board_core.proofs.pick.+is_in_lists.Given as goal

abbrev pub decreases-is_in_lists : goal.decreases-is_in_lists
decreases-is_in_lists l = length l.lists.now
