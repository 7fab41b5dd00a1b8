use Rattle.word_core.proofs.Written.{written_session}
use Rattle.word_core.proofs.laws.written_session.Goals as goal

pub returns : goal.returns
returns c = written_session
