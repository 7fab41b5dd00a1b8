use Rattle.live_core.specs.Text.{object_words}
use Rattle.front_read.proofs.Standing.{not_there}
use Rattle.front_read.proofs.head.take_this_object.Goals as goal

pub returns : goal.returns
returns c = not_there c.args.text.now c.deref.result.now c.push_object.new.out.items c.new-line.result.items (object_words c.args.object.now.name c.args.epoch) c.in-None.ensures c.deref.ensures.value c.in_ok-push_object.ensures c.new-line.ensures.items
