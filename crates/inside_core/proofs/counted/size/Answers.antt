use Rattle.std.proofs.Common.{ap, arith}
use Rattle.path_count.specs.Program.{slots}
use Rattle.path_count.proofs.Compiling.{few_slots}
use Rattle.inside_core.proofs.counted.size.Goals as goal

pub counters-requires : goal.counters-requires
counters-requires c = omega (arith, few_slots c.args.path.now c.root.ensures.rules, ap slots c.root.ensures.same)
