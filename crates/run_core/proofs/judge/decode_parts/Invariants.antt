use Rattle.run_core.proofs.DecodedParts.{Decoding}
use Rattle.run_core.proofs.judge.decode_parts.Given as goal

abbrev pub invariant-loop-part : goal.invariant-loop-part
invariant-loop-part l = Decoding l.operation l.read l.part l.parts.items
