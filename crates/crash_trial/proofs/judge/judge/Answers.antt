use Rattle.std.proofs.Common.{subst, ℕ, Option, Vec, IfSome}
use Rattle.std.specs.declared.alloc.Global.{Global}
use Rattle.crash_trial.specs.Kept.{Leaves}
use Rattle.crash_trial.proofs.Standing.{judged_or}
use Rattle.crash_trial.proofs.judge.judge.Goals as goal

pub returns : goal.returns
returns c =
    judged_or c.args.file.now c.args.happened.now c.in-Some.left.items c.deref.result.now c.in_ok-standing.standing c.judge_file.result
    (subst (λ (o : Option (Vec ℕ Global)). IfSome o (λ left. Leaves c.args.file.now c.args.file.now c.args.happened.now left.items)) c.in-Some.is c.in_ok-crash.ensures)
    c.in_ok-standing.ensures c.deref.ensures.value c.judge_file.ensures
