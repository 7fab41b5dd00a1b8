use Rattle.word_core.specs.Text.{part_words}
use Rattle.front_read.proofs.Standing.{not_there}
use Rattle.front_read.proofs.head.take_this_part.Goals as goal

pub returns : goal.returns
returns c = not_there c.args.text.now c.deref.result.now c.push_part.new.out.items c.new-line.result.items (part_words c.args.name.now c.args.value) c.in-None.ensures c.deref.ensures.value c.in_ok-push_part.ensures c.new-line.ensures.items
