use Rattle.std.proofs.Common.{◌<◌, length, arith}
use Rattle.word_core.specs.View.{written_word}
use Rattle.word_core.proofs.Shown.{words_more}
use Rattle.word_core.proofs.line.push_more.Goals as goal

pub loop-word-preserved : goal.loop-word-preserved
loop-word-preserved c =
    let inside : c.loop-word.word-index < length c.args.words.now = omega arith in
    words_more written_word c.args.out.now.items c.loop-word.out.items c.push_behind.new.out.items c.args.words.now c.loop-word.word-index c.word-item.result inside c.word-item.is c.loop-word.invariant c.in_ok-push_behind.ensures
