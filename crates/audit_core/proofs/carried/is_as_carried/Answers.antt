use Rattle.audit_core.proofs.Carrying.{the_one}
use Rattle.audit_core.proofs.carried.is_as_carried.Goals as goal

pub returns-in-Some : goal.returns-in-Some
returns-in-Some c = the_one c.args.carried.now c.args.number c.args.session c.args.operation c.args.arguments.now c.in-Some.call.now c.is_of.result c.in-Some.ensures.lookup.3.0 (c.in-Some.ensures.lookup.3.1 c.in-Some.call.now) c.is_of.ensures
