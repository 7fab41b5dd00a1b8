use Rattle.std.proofs.Common.{refl, ◌∙◌, arith}
use Rattle.run_core.proofs.Rows.{pad_more}
use Rattle.run_core.proofs.seen.put.Goals as goal

pub loop-alloc-preserved : goal.loop-alloc-preserved
loop-alloc-preserved c = record {
  padded = pad_more c.loop-alloc.read.items c.push.new.self.items c.new-in-loop-alloc.result c.args.place c.in-Ok.ensures.items (c.new-in-loop-alloc.ensures ∙ c.new.ensures.items) (omega arith) ∙ c.loop-alloc.invariant.padded;
  place = refl;
  bytes = refl;
}
