use Rattle.std.proofs.Common.{◌<◌, length, arith}
use Rattle.word_core.specs.Data.{datum_word}
use Rattle.word_core.proofs.Shown.{words_more}
use Rattle.word_core.proofs.line.push_more_data.Goals as goal

pub loop-datum-preserved : goal.loop-datum-preserved
loop-datum-preserved c =
    let inside : c.loop-datum.datum-index < length c.args.elements.now = omega arith in
    words_more datum_word c.args.out.now.items c.loop-datum.out.items c.push_behind.new.out.items c.args.elements.now c.loop-datum.datum-index c.datum-item.result inside c.datum-item.is c.loop-datum.invariant c.in_ok-push_behind.ensures
