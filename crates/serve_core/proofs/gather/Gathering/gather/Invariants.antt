use Rattle.std.specs.Vec.Iter.{into_iter_items, into_iter_len}
use Rattle.serve_core.specs.Gathers.{slips_in}
use Rattle.serve_core.proofs.Gathering.{GatheredSoFar}
use Rattle.serve_core.proofs.gather.Gathering.gather.Given as goal

abbrev pub invariant-loop-came : goal.invariant-loop-came
invariant-loop-came g l = GatheredSoFar l.fn.all.items (into_iter_items l.came-iterator) (into_iter_len l.came-iterator) l.fn.trouble l.trouble (slips_in l.fn.self.all.items) (slips_in l.self.all.items)
