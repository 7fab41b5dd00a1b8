use Rattle.known_core.proofs.Words.{kept}
use Rattle.known_core.proofs.stop_word.StopWord.new.Goals as goal

pub invariant_of-result : goal.invariant_of-result
invariant_of-result c =
    kept c.args.letters.now c.write_front.new.row c.write_front.ensures c.requires.few c.requires.text
