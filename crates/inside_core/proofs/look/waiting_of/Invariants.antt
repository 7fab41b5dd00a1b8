use Rattle.std.proofs.Common.{◌≡◌, ◌≤◌, take}
use Rattle.inside_core.specs.Looks.{waiting_of}
use Rattle.inside_core.proofs.look.waiting_of.Given as goal

abbrev pub invariant-loop-call : goal.invariant-loop-call
invariant-loop-call l = (l.count ≡ waiting_of l.operation (take l.call-index l.waiting)) × (l.count ≤ l.call-index)
