use Rattle.std.proofs.Common.{sym, subst}
use Rattle.decl_core.specs.ObjectMap.{object_of}
use Rattle.stuck_core.specs.Tells.{Tells}
use Rattle.board_core.specs.Board.{paths_of, past_of}
use Rattle.stuck_core.specs.declared.why.CallStatus.TheVariants.{Running, Ended, Unknown}
use Rattle.stuck_core.specs.Why.{state_line, why_text}
use Rattle.world_core.specs.Told.{running_there, unknown, waits, runs, ended}
use Rattle.world_core.proofs.answer.answer_why.Goals as goal

pub returns-in_default : goal.returns-in_default
returns-in_default c = (state_line c.args.number Unknown, c.in_ok-push_state.ensures, unknown c.in_default.ensures.none)

pub returns-then-waits : goal.returns-then-waits
returns-then-waits c =
    let b = c.args.desk.now in
    let told = c.in_ok-push_refused.ensures in (
      why_text (object_of b.object) c.args.number told.0 (running_there b told.0),
      told.2,
      waits c.in-Some.call.now told.0 c.in-Some.ensures.some (sym c.if-waits.ensures) (subst (λ o. Tells (paths_of b) o (past_of b) told.0) c.op.ensures told.1),
    )

pub returns-then-runs : goal.returns-then-runs
returns-then-runs c =
    (state_line c.args.number Running, c.in_ok-push_state-2.ensures, runs c.in-Some.call.now c.in-Some.ensures.some (sym c.if-waits.ensures) (sym c.if-runs.ensures))

pub returns : goal.returns
returns c = (state_line c.args.number Ended, c.in_ok-push_state-3.ensures, ended c.in-Some.call.now c.in-Some.ensures.some (sym c.if-waits.ensures) (sym c.if-runs.ensures))
