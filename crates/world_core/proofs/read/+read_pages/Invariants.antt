use Rattle.std.proofs.Common.{length}
use Rattle.world_core.proofs.read.+read_pages.Given as goal

abbrev pub decreases-read_pages : goal.decreases-read_pages
decreases-read_pages l = length l.pages.now
