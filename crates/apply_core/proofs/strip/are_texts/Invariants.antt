use Rattle.value_core.specs.declared.kind.Elem.TheVariants as elem
use Rattle.apply_core.proofs.Strips.{SoFar}
use Rattle.apply_core.proofs.strip.are_texts.Given as goal

abbrev pub invariant-loop-place : goal.invariant-loop-place
invariant-loop-place l = SoFar l.bytes l.rest elem.Text l.place
