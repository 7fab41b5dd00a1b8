use Rattle.history_law.proofs.Reading.{texts_tell_keys}
use Rattle.history_law.proofs.year_laws.texts_tell_keys.Goals as goal

pub returns : goal.returns
returns c = texts_tell_keys
