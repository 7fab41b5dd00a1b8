use Rattle.guest_core.proofs.Undoing.{first_is}
use Rattle.guest_core.proofs.held.undo_at.Goals as goal

pub returns-in_ok-op-in-Some : goal.returns-in_ok-op-in-Some
returns-in_ok-op-in-Some c =
    first_is c.args.holds.now c.args.place c.in_ok-op-in-Some.op c.in-Some.hold.now c.deref.result.now c.in-Some.ensures.lookup.3.0 (c.in-Some.ensures.lookup.3.1 c.in-Some.hold.now) c.deref.ensures.value c.in_ok-op-in-Some.ensures
