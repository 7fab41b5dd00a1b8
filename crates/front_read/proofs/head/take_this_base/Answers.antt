use Rattle.live_core.specs.Text.{base_words}
use Rattle.front_read.proofs.Standing.{not_there}
use Rattle.front_read.proofs.head.take_this_base.Goals as goal

pub returns : goal.returns
returns c = not_there c.args.text.now c.deref.result.now c.push_base.new.out.items c.new-line.result.items (base_words c.args.base) c.in-None.ensures c.deref.ensures.value c.in_ok-push_base.ensures c.new-line.ensures.items
