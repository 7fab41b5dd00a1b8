use Rattle.taken_core.proofs.Answered.{taken_told, cut_told, bare_told, lines_told}
use Rattle.taken_core.proofs.taken.take_file.Goals as goal

pub returns-clause-taken : goal.returns-clause-taken
returns-clause-taken c = taken_told c.answer.result c.args.file.now c.args.accepts_cut c.answer.ensures

pub returns-clause-cut : goal.returns-clause-cut
returns-clause-cut c = cut_told c.answer.result c.args.file.now c.args.accepts_cut c.answer.ensures

pub returns-clause-bare : goal.returns-clause-bare
returns-clause-bare c = bare_told c.answer.result c.args.file.now c.args.accepts_cut c.answer.ensures

pub returns-clause-are_lines : goal.returns-clause-are_lines
returns-clause-are_lines c = lines_told c.answer.result c.args.file.now c.args.accepts_cut c.answer.ensures
