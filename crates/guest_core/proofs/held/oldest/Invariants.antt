use Rattle.std.proofs.Common.{take}
use Rattle.guest_core.specs.Held.{Fits, NoneFits}
use Rattle.guest_core.proofs.held.oldest.Given as goal

abbrev pub invariant-held : goal.invariant-held
invariant-held l = NoneFits (Fits l.rule l.arguments) (take l.place l.held)
