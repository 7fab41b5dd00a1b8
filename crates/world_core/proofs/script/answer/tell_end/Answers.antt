use Rattle.world_core.proofs.Doing.{end_told}
use Rattle.world_core.proofs.script.answer.tell_end.Goals as goal

pub returns : goal.returns
returns c =
    end_told c.tell_event.result c.args.world.now c.step_to_end-count.new.world c.tell_event.new.world c.args.number c.step_to_end-count.result c.args.out.now.items c.push_all_stepped.new.out.items c.tell_event.new.out.items
    c.step_to_end-count.ensures c.in_ok-push_all_stepped.ensures c.tell_event.ensures
