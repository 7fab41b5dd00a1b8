use Rattle.decl_core.specs.ObjectMap.{object_of}
use Rattle.command_tool.proofs.Telling.{next}
use Rattle.command_tool.proofs.folder_audit.hear_bare.Goals as goal

pub returns-in-Ok : goal.returns-in-Ok
returns-in-Ok c = next (object_of c.args.object.now) c.args.epochs.now c.hear.new.self (rw c.in-Ok.is at c.in_ok-hear.ensures)
