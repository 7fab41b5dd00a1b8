use Rattle.std.proofs.Common.{Some, inl, inr, ap, sym, subst}
use Rattle.run_core.specs.Tasks.{task_call}
use Rattle.run_core.specs.declared.phase.Phase.TheVariants.{Creating, Appending, Sealing}
use Rattle.run_core.specs.Steps.{Follows, place_in, at_end, stays}
use Rattle.run_core.proofs.Pens.{no_file}
use Rattle.run_core.proofs.Stepping.{written_reads}
use Rattle.run_core.proofs.advance.advance.Goals as goal
use Rattle.run_core.proofs.advance.advance.Goals.{in-Reading, in-Paging, in-Creating, in-Appending, in-Sealing}

pub returns-in-Ended-clause-steps : goal.returns-in-Ended-clause-steps
returns-in-Ended-clause-steps g c = subst (λ phase. Follows (task_call c.args.task.now) (place_in phase) (at_end c.in-Ended.reply c.in-Ended.left.sealed.items)) (sym c.in-Ended.is) stays

pub returns-clause-makes : goal.returns-clause-makes
returns-clause-makes g c =
    elim c.match-phase.branch [
      | in-Reading w ↦ rw (w.in-Reading.is, w.hand-is, w.next-is) w.read_step-next.ensures.makes
      | in-Paging w ↦ rw (w.in-Paging.is, w.hand-is, w.next-is) w.page_step-next.ensures.makes
      | in-Creating w ↦ rw (w.in-Creating.is, w.hand-is, w.next-is) w.create_step-next.ensures.makes
      | in-Appending w ↦ rw (w.in-Appending.is, w.hand-is, w.next-is) w.append_step-next.ensures.makes
      | in-Sealing w ↦ rw (w.in-Sealing.is, w.hand-is, w.next-is) w.seal_step-next.ensures.makes
    ]

pub returns-clause-reads : goal.returns-clause-reads
returns-clause-reads g c =
    let call = task_call c.args.task.now in
    elim c.match-phase.branch [
      | in-Reading w ↦ rw (w.next-is) w.read_step-next.ensures.reads
      | in-Paging w ↦ rw (w.next-is) w.page_step-next.ensures.reads
      | in-Creating w ↦ rw (w.next-is) (written_reads call (Creating w.in-Creating.plan) _ tt (w.create_step-next.ensures.steps call))
      | in-Appending w ↦ rw (w.next-is) (written_reads call (Appending w.in-Appending.plan w.in-Appending.pen) _ tt (w.append_step-next.ensures.steps call))
      | in-Sealing w ↦ rw (w.next-is) (written_reads call (Sealing w.in-Sealing.plan w.in-Sealing.pen) _ tt (w.seal_step-next.ensures.steps call))
    ]

pub returns-clause-unused : goal.returns-clause-unused
returns-clause-unused g c =
    elim c.match-phase.branch [
      | in-Reading w ↦ rw (w.in-Reading.is, w.hand-is, w.next-is) (λ n is. absurd (no_file _ n w.read_step-next.ensures.pen is))
      | in-Paging w ↦ rw (w.in-Paging.is, w.hand-is, w.next-is) (λ n is. absurd (no_file _ n w.page_step-next.ensures.pen is))
      | in-Creating w ↦ rw (w.in-Creating.is, w.hand-is, w.next-is) (λ n is. inr (w.create_step-next.ensures.unused n is))
      | in-Appending w ↦ rw (w.in-Appending.is, w.hand-is, w.next-is) (λ n is. inl (ap Some (w.append_step-next.ensures.same n is)))
      | in-Sealing w ↦ rw (w.in-Sealing.is, w.hand-is, w.next-is) (λ n is. absurd (no_file _ n w.seal_step-next.ensures.pen is))
    ]
