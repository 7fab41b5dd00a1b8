use Rattle.std.proofs.Common.{arith}
use Rattle.std.proofs.lemmas.List.{length-take}
use Rattle.check_core.proofs.Heads.{short_told}
use Rattle.check_core.proofs.head.has_short_line.Goals as goal

pub slice_bounds-has_no_line_feed-end : goal.slice_bounds-has_no_line_feed-end
slice_bounds-has_no_line_feed-end c = omega (arith, c.if-head-le-MOST_FIRST_LINE.false, length-take 65536 c.args.head.now)

pub returns : goal.returns
returns c = short_told c.has_no_line_feed.result c.args.head.now c.if-head-le-MOST_FIRST_LINE.false c.has_no_line_feed.ensures
