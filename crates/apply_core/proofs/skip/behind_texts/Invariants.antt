use Rattle.value_core.specs.declared.kind.Elem.TheVariants as elem
use Rattle.apply_core.proofs.Skips.{IsBehind}
use Rattle.apply_core.proofs.skip.behind_texts.Given as goal

abbrev pub invariant-loop-place : goal.invariant-loop-place
invariant-loop-place l = IsBehind elem.Text l.bytes l.rest l.place l.count
