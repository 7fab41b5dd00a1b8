use Rattle.std.proofs.Common.{◌+◌, arith}
use Rattle.office_core.proofs.Naming.{clients_given}
use Rattle.office_core.proofs.inside.Inside.seat.Goals as goal

pub invariant_of-self : goal.invariant_of-self
invariant_of-self c = (omega (arith, c.if-self-ge-MOST_SESSIONS.false), clients_given c.self.inside.given c.self.inside.clients c.self.invariant.1)
