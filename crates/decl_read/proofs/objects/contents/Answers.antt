use Rattle.std.proofs.Common.{arith}
use Rattle.decl_read.proofs.Lengths.{behind_constants}
use Rattle.decl_parts.proofs.Limits.{paths_few}
use Rattle.decl_read.proofs.Limits.{operations_few}
use Rattle.decl_read.proofs.KnownParts.{operations_know}
use Rattle.decl_read.proofs.NameCounts.{names_few}
use Rattle.decl_read.proofs.objects.contents.Goals as goal

pub paths-requires-clause-few : goal.paths-requires-clause-few
paths-requires-clause-few c = rw c.deref-2.ensures.value (names_few c.args.tokens.now c.in_ok-names.names.items c.in_ok-names.ensures c.requires)

pub paths-requires-clause-bounded : goal.paths-requires-clause-bounded
paths-requires-clause-bounded c =
    let short = behind_constants c.args.tokens.now c.in_ok-constants.rest.now _ _ c.in_ok-constants.ensures in
    omega (arith, c.requires)

pub invariant_of-object : goal.invariant_of-object
invariant_of-object c =
    record {
      few = c.in_ok-parts.ensures.few;
      few_paths = paths_few _ _ c.new-2.result.items c.in_ok-paths.paths.items _ _ c.new-2.ensures.items c.in_ok-paths.ensures;
      few_operations = operations_few _ _ c.new-4.result.items c.in_ok-operations.operations.items _ _ c.new-4.ensures.items c.in_ok-operations.ensures;
      of_parts = operations_know _ c.deref-5.result.now c.in_ok-parts.parts.items c.new-4.result.items c.in_ok-operations.operations.items _ _ c.deref-5.ensures.value c.new-4.ensures.items c.in_ok-operations.ensures;
    }
