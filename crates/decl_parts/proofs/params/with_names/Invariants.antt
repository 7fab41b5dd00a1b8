use Rattle.std.proofs.Common.{◌≡◌, ◌+◌, ◌++◌, length}
use Rattle.decl_parts.specs.Declarations.{each_with}
use Rattle.decl_core.specs.ObjectMap.{params_of}
use Rattle.decl_parts.proofs.params.with_names.Given as goal

abbrev pub invariant-loop-name : goal.invariant-loop-name
invariant-loop-name l =
    (params_of l.all.items ≡ params_of l.fn.before.items ++ each_with l.kind l.yielded)
    × (length l.all.items ≡ length l.fn.before.items + length l.yielded)
