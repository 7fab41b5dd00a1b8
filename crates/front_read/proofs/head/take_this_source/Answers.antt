use Rattle.live_core.specs.Text.{source_words}
use Rattle.front_read.proofs.Standing.{not_there}
use Rattle.front_read.proofs.head.take_this_source.Goals as goal

pub returns : goal.returns
returns c = not_there c.args.text.now c.deref.result.now c.push_source.new.out.items c.new-line.result.items (source_words c.args.source) c.in-None.ensures c.deref.ensures.value c.in_ok-push_source.ensures c.new-line.ensures.items
