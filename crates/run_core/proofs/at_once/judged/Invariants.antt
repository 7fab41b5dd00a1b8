use Rattle.std.proofs.Common.{◌≡◌, ℕ, List}
use Rattle.std.specs.Arc.{arc_value}
use Rattle.device_core.specs.declared.hand.Stamp.{Stamp}
use Rattle.device_core.specs.Device.{Assignment, Always}
use Rattle.known_core.specs.Masks.{unread}
use Rattle.run_core.specs.Verdicts.{HasReads}
use Rattle.run_core.specs.Seen.{IsSeen}
use Rattle.run_core.specs.Tasks.{task_call}
use Rattle.page_core.specs.Truths.{PinsAreWhole}
use Rattle.run_core.proofs.MadeAtOnce.{ReadsSoFar}
use Rattle.run_core.proofs.at_once.judged.Given as goal

-- the pages that were read so far are seen
abbrev pub invariant-loop-part : goal.invariant-loop-part
invariant-loop-part g l =
    let agrees = g.H.Hand.agrees in
    let call = task_call l.fn.task in
    record {
      kept : (a : Assignment) → agrees l.hand a → agrees l.fn.hand a;
      seen : (a : Assignment) → agrees l.hand a → PinsAreWhole a call → IsSeen a call l.fn.seen.known l.fn.seen.read.items → IsSeen a call l.seen.known l.seen.read.items;
      reads : HasReads (arc_value l.fn.task.operation) l.seen.read.items;
      none : g.H.Hand.failed l.hand ≡ g.H.Hand.failed l.fn.hand;
      makes : ReadsSoFar g.H.Hand.makes call l.fn.seen.known l.seen.known l.fn.hand l.hand;
      earlier : (n : ℕ) (b : List ℕ) → g.H.Hand.pending l.hand n b → g.H.Hand.pending l.fn.hand n b;
      serves : (s : Stamp) → g.H.Hand.serves l.fn.hand s → g.H.Hand.serves l.hand s;
      works : Always (g.H.Hand.works_for l.fn.hand) → Always (g.H.Hand.works_for l.hand);
    }

abbrev pub decreases-loop-part : goal.decreases-loop-part
decreases-loop-part g l = unread l.seen.known
