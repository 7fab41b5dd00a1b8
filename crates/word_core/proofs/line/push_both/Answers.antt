use Rattle.std.proofs.Common.{map, arith}
use Rattle.std.proofs.lemmas.Bool.Decides.{nat_tests}
use Rattle.word_core.specs.Data.{datum_word}
use Rattle.word_core.specs.View.{written_word}
use Rattle.word_core.proofs.Shown.{words_then}
use Rattle.word_core.proofs.line.push_both.Goals as goal

pub returns : goal.returns
returns c =
    words_then written_word c.args.out.now.items c.push_words.new.out.items c.push_more_data.new.out.items c.args.words.now (map datum_word c.args.elements.now) (λ h. grind (arith, nat_tests))
    c.in_ok-push_words.ensures c.in_ok-push_more_data.ensures
