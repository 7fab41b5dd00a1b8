use Rattle.keep_loop.proofs.Lines.{no_lines, lines_append}
use Rattle.keep_loop.proofs.journal.lines_are_joined.Goals as goal

pub returns-clause-none : goal.returns-clause-none
returns-clause-none c = no_lines

pub returns-clause-both : goal.returns-clause-both
returns-clause-both c = lines_append
