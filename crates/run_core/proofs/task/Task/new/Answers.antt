use Rattle.std.proofs.Common.{arith, sym, subst}
use Rattle.decl_core.specs.Bodies.{body_of}
use Rattle.decl_core.specs.Touched.{Reads}
use Rattle.run_core.proofs.Bits.{low_bit}
use Rattle.run_core.proofs.task.Task.new.Goals as goal

pub invariant_of-result-clause-low : goal.invariant_of-result-clause-low
invariant_of-result-clause-low c = λ p reads.
    low_bit c.reads-reads.result p (omega (arith, c.reads-reads.type_inv)) ((c.reads-reads.ensures.named p).1 (subst (λ o. Reads (body_of o).statements p) (sym c.deref.ensures) reads))
