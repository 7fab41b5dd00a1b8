use Rattle.std.proofs.Common.{length}
use Rattle.board_core.proofs.pick.+has_file.Given as goal

abbrev pub decreases-has_file : goal.decreases-has_file
decreases-has_file l = length l.stamps.now
