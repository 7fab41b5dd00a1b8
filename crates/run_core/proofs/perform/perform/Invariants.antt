use Rattle.std.proofs.Common.{◌≡◌, ◌⊎◌, ◌<◌, ◌≤◌, Some, None}
use Rattle.device_core.specs.declared.hand.Stamp.{Stamp}
use Rattle.device_core.specs.Device.{Assignment, Always, Failed as DeviceFailed}
use Rattle.apply_core.specs.declared.reply.Failure.TheVariants as failures
use Rattle.apply_core.specs.declared.reply.Reply.TheVariants as replies
use Rattle.run_core.specs.Runs.{run_call, run_ending, run_place, run_sealed, run_work, PenHolds, SoFar}
use Rattle.run_core.specs.Steps.{Place, Leads, AreServed, PinsServed}
use Rattle.run_core.proofs.perform.perform.Given as goal

-- the steps so far are as one step
abbrev pub invariant-loop-outcome : goal.invariant-loop-outcome
invariant-loop-outcome g l =
    let agrees = g.H.Hand.agrees in
    let failed = g.H.Hand.failed in
    let pending = g.H.Hand.pending in
    let readable = g.H.Hand.serves in
    let works_for = g.H.Hand.works_for in
    record {
      call : run_call l.run ≡ run_call l.fn.run;
      steps : (last : Place) → Leads (run_call l.fn.run) (run_place l.run) last → Leads (run_call l.fn.run) (run_place l.fn.run) last;
      kept : (a : Assignment) → agrees l.hand a → agrees l.fn.hand a;
      pen : PenHolds (pending l.fn.hand) l.fn.run → PenHolds (pending l.hand) l.run;
      found : PenHolds (pending l.fn.hand) l.fn.run → (a : Assignment) → agrees l.hand a → SoFar a l.fn.run → SoFar a l.run;
      serves : (s : Stamp) → readable l.fn.hand s → readable l.hand s;
      works : Always (works_for l.fn.hand) → Always (works_for l.hand);
      written : AreServed (readable l.fn.hand) (run_sealed l.fn.run) → AreServed (readable l.hand) (run_sealed l.run);
      in_order : Always (works_for l.fn.hand) → PenHolds (pending l.fn.hand) l.fn.run → PinsServed (readable l.fn.hand) (run_call l.fn.run) → run_ending l.fn.run ≡ None → run_ending l.run ≡ Some (replies.Failed failures.Device) → ⊥;
      rises : failed l.fn.hand < failed l.hand → run_ending l.run ≡ Some (replies.Failed failures.Device);
      counted : failed l.fn.hand ≤ failed l.hand;
      cause : run_ending l.run ≡ Some (replies.Failed failures.Device) → (run_ending l.fn.run ≡ Some (replies.Failed failures.Device)) ⊎ DeviceFailed (failed l.fn.hand) (failed l.hand);
    }

abbrev pub decreases-loop-outcome : goal.decreases-loop-outcome
decreases-loop-outcome g l = run_work l.run
