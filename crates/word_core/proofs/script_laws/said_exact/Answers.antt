use Rattle.word_core.proofs.ScriptTelling.{said_exact}
use Rattle.word_core.proofs.script_laws.said_exact.Goals as goal

pub returns : goal.returns
returns c = said_exact
