use Rattle.decl_read.proofs.OperationNames.{names_are_operations}
use Rattle.decl_read.proofs.laws.names_are_operations.Goals as goal

pub returns : goal.returns
returns c = names_are_operations
