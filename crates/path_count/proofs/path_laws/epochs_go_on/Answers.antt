use Rattle.path_count.proofs.Epochs.{epochs_go_on}
use Rattle.path_count.proofs.path_laws.epochs_go_on.Goals as goal

pub returns : goal.returns
returns c = epochs_go_on
