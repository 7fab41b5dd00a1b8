use Rattle.std.proofs.Common.{[], sym, refl}
use Rattle.session_core.proofs.held.HeldReplies.new.Goals as goal

pub invariant_of-result : goal.invariant_of-result
invariant_of-result c = ([], sym c.new-2.ensures.items, refl, c.new.ensures.items)
