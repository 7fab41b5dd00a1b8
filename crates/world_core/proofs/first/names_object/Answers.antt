use Rattle.world_core.proofs.Naming.{names_told}
use Rattle.world_core.proofs.first.names_object.Goals as goal

pub returns-in-Some : goal.returns-in-Some
returns-in-Some c = names_told c.args.object.now c.args.line.now c.in-Some.name.now c.is_spelled_by.result c.in-Some.ensures c.is_spelled_by.ensures
