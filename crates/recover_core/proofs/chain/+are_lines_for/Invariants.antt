use Rattle.std.proofs.Common.{length}
use Rattle.recover_core.proofs.chain.+are_lines_for.Given as goal

abbrev pub decreases-are_lines_for : goal.decreases-are_lines_for
decreases-are_lines_for l = length l.calls.now
