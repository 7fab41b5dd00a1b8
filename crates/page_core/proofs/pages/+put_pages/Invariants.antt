use Rattle.std.proofs.Common.{length}
use Rattle.page_core.proofs.pages.+put_pages.Given as goal

abbrev pub decreases-put_pages : goal.decreases-put_pages
decreases-put_pages g l = length l.bytes.now
