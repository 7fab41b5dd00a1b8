use Rattle.std.proofs.Common.{subst}
use Rattle.board_core.specs.Sound.{IsSound}
use Rattle.world_core.proofs.Doing.{call_done, call_only}
use Rattle.world_core.proofs.script.answer.tell_done.Goals as goal

pub returns-in_default : goal.returns-in_default
returns-in_default c =
    call_only c.args.world.now c.tell_call.new.world c.args.session c.args.op.now c.args.arguments.now c.args.out.now.items c.tell_call.new.out.items c.in_ok-number.ensures.told (rw c.in_default.is at c.in_ok-number.ensures.runs)

pub returns : goal.returns
returns c =
    let runs = rw c.in-Some.is at c.in_ok-number.ensures.runs in
    call_done c.tell_end.result c.args.world.now c.tell_call.new.world c.tell_end.new.world c.args.session c.args.op.now c.args.arguments.now c.in-Some.number c.args.out.now.items c.tell_call.new.out.items c.tell_end.new.out.items
    c.in_ok-number.ensures.told (record { sequential = c.desk.ensures.sequential; sound = subst IsSound c.desk.ensures.desk c.history.ensures.sound }) runs.0 runs.1 c.tell_end.ensures
