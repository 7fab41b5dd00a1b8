use Rattle.history_law.proofs.Words.{are_lines}
use Rattle.history_law.proofs.crash_laws.words_are_lines.Goals as goal

pub returns : goal.returns
returns c = are_lines
