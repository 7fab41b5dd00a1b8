use Rattle.std.proofs.Common.{◌↔◌, All, length}
use Rattle.value_core.specs.Plain.{IsPlain}
use Rattle.apply_core.proofs.plain.are_plain.Given as goal

abbrev pub invariant-eights : goal.invariant-eights
invariant-eights l = All IsPlain l.rest ↔ All IsPlain l.bytes

abbrev pub decreases-eights : goal.decreases-eights
decreases-eights l = length l.rest
