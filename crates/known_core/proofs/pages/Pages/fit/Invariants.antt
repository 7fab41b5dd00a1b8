use Rattle.std.proofs.Common.{◌≡◌, length}
use Rattle.known_core.specs.Wanted.{IsFitSoFar}
use Rattle.known_core.proofs.pages.Pages.fit.Given as goal

abbrev pub invariant-loop-part : goal.invariant-loop-part
invariant-loop-part l = IsFitSoFar l.operation l.self-inside.masks l.masks l.part × (length l.masks ≡ 16)
