use Rattle.std.proofs.Common.{arith}
use Rattle.path_tree.proofs.Words.{word_identifier}
use Rattle.path_tree.proofs.lex.word.read_word.Goals as goal

pub of_identifier-requires : goal.of_identifier-requires
of_identifier-requires c = word_identifier c.args.source.now c.args.start c.word_end-end.result (c.requires.letter, c.word_end-end.ensures, omega arith)
