use Rattle.known_core.proofs.Fitting.{all_masks, all_at, are_full}
use Rattle.known_core.proofs.Missing.{unread_few}
use Rattle.known_core.proofs.pages.Pages.full.Goals as goal

pub returns-clause-full : goal.returns-clause-full
returns-clause-full c = are_full (all_masks 16) (all_at 16)

pub returns-clause-all : goal.returns-clause-all
returns-clause-all c = all_at 16

pub returns-clause-few : goal.returns-clause-few
returns-clause-few c = unread_few (all_masks 16)
