use Rattle.keep_loop.proofs.Lines.{recovered_lines}
use Rattle.keep_loop.proofs.journal.recovered_are_lines.Goals as goal

pub returns : goal.returns
returns c = recovered_lines
