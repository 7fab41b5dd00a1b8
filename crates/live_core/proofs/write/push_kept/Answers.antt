use Rattle.decl_core.specs.ObjectMap.{object_of}
use Rattle.live_core.specs.Text.{answer_of, answer_words, call_words}
use Rattle.live_core.proofs.Adding.{kept_added}
use Rattle.live_core.proofs.write.push_kept.Goals as goal

pub returns : goal.returns
returns c =
    kept_added c.args.out.now.items c.push_words.new.out.items c.push_answer.new.out.items c.push_call.new.out.items c.args.session c.from.result c.args.key c.args.told (answer_words (answer_of c.args.reply))
    (call_words (object_of c.args.object.now) c.args.operation c.args.arguments.now) c.from.ensures c.in_ok-push_words.ensures c.in_ok-push_answer.ensures c.in_ok-push_call.ensures
