use Rattle.std.proofs.Common.{arith, inl, inr, subst, sym, ◌≡◌, ◌≢◌}
use Rattle.std.specs.Prelude.{slice_index}
use Rattle.std.proofs.lemmas.Bool.{cases_lt}
use Rattle.page_core.proofs.Lists.{true_false}
use Rattle.queue_core.specs.Starts.{OpCanStart}
use Rattle.queue_core.proofs.Queueing.{op_within}
use Rattle.queue_core.proofs.queue.others_rest.Goals as goal

pub loop-op-init : goal.loop-op-init
loop-op-init c = λ n paths t stands k less. absurd (omega (arith, less))

pub loop-op-preserved : goal.loop-op-preserved
loop-op-preserved c = λ n paths t stands k less some other can. elim (cases_lt k c.loop-op.op) [
  | inl before ↦ c.loop-op.invariant n paths t stands k before some other can
  | inr last ↦
      let here : c.loop-op.op ≡ k = omega (arith, less, last) in
      true_false c.can_pass.result
      ((c.can_pass.ensures n paths t stands).1 (subst (λ k. slice_index c.args.counts.now k ≢ 0) (sym here) some, subst (λ k. k ≢ c.args.last) (sym here) other, subst (OpCanStart n paths t) (sym here) can))
      c.if-can_pass.false
]

pub returns : goal.returns
returns c = λ n paths t stands yes op some other can. c.loop-op.invariant n paths t stands op (omega (arith, c.loop-op-test.false, c.told-counts, op_within c.args.counts.now op some)) some other can
