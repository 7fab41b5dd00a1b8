use Rattle.std.proofs.Common.{◌≡◌, ◌∙◌, ◌++◌, ℕ, true, false, [], ◌∷◌, ap, ap₂, sym}
use Rattle.stuck_core.specs.ReasonViews.{whys_of}
use Rattle.board_core.specs.Answers.{runs_in}
use Rattle.board_core.specs.Board.{call_at}
use Rattle.world_core.specs.Told.{is_needed}
use Rattle.world_core.proofs.Running.{none_runs, there_runs, idle_there, not_and, and_not, both}
use Rattle.world_core.proofs.answer.push_run.Goals as goal

pub returns-in_default : goal.returns-in_default
returns-in_default c = none_runs c.args.desk.now (whys_of c.args.reasons.now) c.args.number (call_at c.args.desk.now.calls c.args.number) c.args.runs.now.items c.in_default.ensures.none

pub returns-then-not-runs : goal.returns-then-not-runs
returns-then-not-runs c =
    let b = c.args.desk.now in
    idle_there b (whys_of c.args.reasons.now) c.args.number c.in-Some.call.now (call_at b.calls c.args.number) c.args.runs.now.items c.in-Some.ensures.some
    (not_and (runs_in b c.args.number) (is_needed (whys_of c.args.reasons.now) c.in-Some.call.now.op) (sym c.if-not-runs.ensures))

pub returns-then-not-is_needed : goal.returns-then-not-is_needed
returns-then-not-is_needed c =
    let b = c.args.desk.now in
    let needs : is_needed (whys_of c.args.reasons.now) c.in-Some.call.now.op ≡ false = sym (ap (is_needed (whys_of c.args.reasons.now)) c.op.ensures) ∙ sym c.if-not-is_needed.ensures in
    idle_there b (whys_of c.args.reasons.now) c.args.number c.in-Some.call.now (call_at b.calls c.args.number) c.args.runs.now.items c.in-Some.ensures.some
    (and_not (runs_in b c.args.number) (is_needed (whys_of c.args.reasons.now) c.in-Some.call.now.op) needs)

pub returns : goal.returns
returns c =
    let b = c.args.desk.now in
    let call = c.in-Some.call.now in
    let whys = whys_of c.args.reasons.now in
    let needs : is_needed whys call.op ≡ true = sym (ap (is_needed whys) c.op.ensures) ∙ sym c.if-not-is_needed.ensures in
    c.in_ok-push.ensures.items
    ∙ ap₂ (λ (s o : ℕ). c.args.runs.now.items ++ record { number = c.args.number; session = s; operation = o } ∷ []) c.session.ensures c.op-2.ensures
    ∙ sym (there_runs b whys c.args.number call (call_at b.calls c.args.number) true c.args.runs.now.items c.in-Some.ensures.some (both (runs_in b c.args.number) (is_needed whys call.op) (sym c.if-not-runs.ensures) needs))
