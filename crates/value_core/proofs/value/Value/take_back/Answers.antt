use Rattle.std.proofs.Common.{subst}
use Rattle.value_core.specs.Contents.{IsContents}
use Rattle.value_core.specs.declared.value.Body.TheVariants as body
use Rattle.value_core.specs.Body.{contents_of}
use Rattle.value_core.proofs.Undone.{contents_again}
use Rattle.value_core.proofs.value.Value.take_back.Goals as goal
use Rattle.value_core.proofs.value.Value.take_back.Goals.{in-Array, in-Queue, in-Table}

pub invariant_of-self : goal.invariant_of-self
invariant_of-self c = elim c.match-self.branch [
  | in-Array w ↦ rw (w.self-inside-is, w.take_back.ensures.sort, w.take_back.ensures.data)
      (contents_again c.args.undo (contents_of (body.Array w.in-Array.cells)) c.keeps_data.ensures (subst (λ b. IsContents (contents_of b)) w.in-Array.is c.self.invariant))
  | in-Queue w ↦ rw (w.self-inside-is, w.take_back-in-Queue.ensures.sort, w.take_back-in-Queue.ensures.data)
      (contents_again c.args.undo (contents_of (body.Queue w.in-Queue.queue)) c.keeps_data.ensures (subst (λ b. IsContents (contents_of b)) w.in-Queue.is c.self.invariant))
  | in-Table w ↦ rw (w.self-inside-is, w.take_back-in-Table.ensures.sort, w.take_back-in-Table.ensures.data)
      (contents_again c.args.undo (contents_of (body.Table w.in-Table.rows)) c.keeps_data.ensures (subst (λ b. IsContents (contents_of b)) w.in-Table.is c.self.invariant))
]
