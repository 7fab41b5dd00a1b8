use Rattle.std.proofs.Common.{ap, sym, subst, arith}
use Rattle.page_core.specs.PartPins.{count_pages}
use Rattle.page_core.proofs.PartRows.{count_by}
use Rattle.page_core.specs.CallPins.{AreSized}
use Rattle.run_core.proofs.Sizes.{sized_by}
use Rattle.run_core.proofs.ending.renewed.Goals as goal

pub copy_into-entry-requires-clause-room : goal.copy_into-entry-requires-clause-room
copy_into-entry-requires-clause-room c =
    omega (arith, c.args.pages.twice.1, c.args.pages.counted, count_by 0 c.args.pages.counts c.args.pages.stamps.items c.args.pages.counted, ap count_pages c.from_counts-news.ensures)

pub invariant_of-result : goal.invariant_of-result
invariant_of-result c = record {
  twice = c.copy_into-entry.ensures;
  sized = subst AreSized (sym c.from_counts-news.ensures) (sized_by 0 c.args.pages.counts c.args.pages.stamps.items c.args.pages.counted c.args.pages.short);
}
