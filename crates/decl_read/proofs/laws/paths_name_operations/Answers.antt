use Rattle.decl_read.proofs.OperationNames.{paths_name_operations}
use Rattle.decl_read.proofs.laws.paths_name_operations.Goals as goal

pub returns : goal.returns
returns c = paths_name_operations
