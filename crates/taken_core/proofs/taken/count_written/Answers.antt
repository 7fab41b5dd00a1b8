use Rattle.std.proofs.Common.{◌∙◌}
use Rattle.taken_core.proofs.Counts.{count_more, count_end}
use Rattle.taken_core.proofs.taken.count_written.Goals as goal

pub loop-byte-preserved : goal.loop-byte-preserved
loop-byte-preserved c = record {
  so_far = count_more c.loop-byte.rest.now c.in-Some.more.now c.in-Some.byte.now c.loop-byte.count c.count_one-count.result c.count_one-count.ensures c.in-Some.ensures.cases.0 ∙ c.loop-byte.invariant.so_far;
  fits = c.count_one-count.type_inv;
}

pub returns : goal.returns
returns c = count_end c.loop-byte.rest.now c.loop-byte.count _ c.in_default.ensures.cases c.loop-byte.invariant.fits c.loop-byte.invariant.so_far
