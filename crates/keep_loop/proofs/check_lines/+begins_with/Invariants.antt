use Rattle.std.proofs.Common.{length}
use Rattle.keep_loop.proofs.check_lines.+begins_with.Given as goal

abbrev pub decreases-begins_with : goal.decreases-begins_with
decreases-begins_with l = length l.word.now
