use Rattle.std.proofs.Common.{sym, subst, ◌+◌}
use Rattle.keep_loop.proofs.Quiet.{Reads, reads_none, reads_more, reads_line, reads_all, reads_zero}
use Rattle.keep_loop.proofs.journal.recovered_len.Goals as goal
use Rattle.keep_loop.proofs.journal.recovered_len.Goals.{then-byte-eq10, else-byte-eq10}

pub loop-at-init : goal.loop-at-init
loop-at-init c = reads_none c.args.file.now

pub returns-then-byte-eq0-clause-lines : goal.returns-then-byte-eq0-clause-lines
returns-then-byte-eq0-clause-lines c =
    reads_zero c.args.file.now c.loop-at.size c.loop-at.at c.loop-at.invariant c.loop-at-test.true c.if-byte-eq0.true

pub loop-at-preserved : goal.loop-at-preserved
loop-at-preserved c =
    let file = c.args.file.now in
    elim c.if-byte-eq10.branch [
      | then-byte-eq10 w ↦
          subst (λ n. Reads file n (c.loop-at.at + 1)) (sym w.size-is)
          (reads_line file c.loop-at.size c.loop-at.at c.loop-at.invariant c.loop-at-test.true w.if-byte-eq10.true)
      | else-byte-eq10 w ↦
          subst (λ n. Reads file n (c.loop-at.at + 1)) (sym w.size-is)
          (reads_more file c.loop-at.size c.loop-at.at c.loop-at.invariant c.loop-at-test.true c.if-byte-eq0.false w.if-byte-eq10.false)
    ]

pub returns-clause-lines : goal.returns-clause-lines
returns-clause-lines c = reads_all c.args.file.now c.loop-at.size c.loop-at.at c.loop-at.invariant c.loop-at-test.false
