use Rattle.std.proofs.Common.{subst}
use Rattle.board_core.specs.Sound.{IsSound}
use Rattle.world_core.specs.Does.{Happens, call_of, event_lines}
use Rattle.world_core.proofs.Doing.{found_runs}
use Rattle.world_core.proofs.script.answer.tell_call.Goals as goal

pub returns : goal.returns
returns c = record {
  told = (event_lines c.event-told.new.self 0 c.event-told.result, c.in_ok-push_told.ensures.told, Happens.happens c.event-told.result c.event-told.ensures c.in_ok-push_told.ensures.memory);
  runs = found_runs c.args.world.now c.event-told.new.self (record { session = c.args.session; name = c.args.op.now; arguments = c.args.arguments.now }) c.event-told.result c.running-found.result
      (subst IsSound c.desk.ensures.desk c.history.ensures.sound) c.event-told.ensures c.running-found.ensures;
}
