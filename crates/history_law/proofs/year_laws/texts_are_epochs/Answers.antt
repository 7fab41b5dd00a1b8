use Rattle.history_law.proofs.Reading.{texts_are_epochs}
use Rattle.history_law.proofs.year_laws.texts_are_epochs.Goals as goal

pub returns : goal.returns
returns c = texts_are_epochs
