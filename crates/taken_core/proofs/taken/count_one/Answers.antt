use Rattle.std.proofs.Common.{◌∙◌}
use Rattle.taken_core.proofs.Counts.{one_zero, one_other}
use Rattle.taken_core.proofs.taken.count_one.Goals as goal

pub returns-then-byte-eq0 : goal.returns-then-byte-eq0
returns-then-byte-eq0 c = one_zero c.args.count c.args.byte c.if-byte-eq0.true c.ranges.count.fits

pub returns : goal.returns
returns c = c.saturating_add.ensures ∙ one_other c.args.count c.args.byte c.if-byte-eq0.false
