use Rattle.std.proofs.Common.{◌≡◌, ◌∙◌, ℕ, zero, suc, true, false, Some, replicate, sym, ap, subst}
use Rattle.std.specs.Prelude.{slice_get}
use Rattle.std.proofs.lemmas.Option.{slice_get-get_or}
use Rattle.queue_core.specs.Starts.{OpCanStart, CanStart}
use Rattle.page_core.specs.ObjectCalls.{WaitingCall}
use Rattle.queue_core.proofs.Fronts.{Every-more}
use Rattle.page_core.proofs.Lists.{true_false}
use Rattle.queue_core.proofs.queue.first_to_start.Goals as goal

none_set : (n k : ℕ) → slice_get (replicate n false) k ≡ Some true → ⊥
none_set zero k is = absurd cc
none_set (suc n) zero is = absurd cc
none_set (suc n) (suc k) is = none_set n k is

pub loop-place-init : goal.loop-place-init
loop-place-init c = λ n paths t stands. (tt, λ op is can. none_set 32 op is)

pub returns-then-asks-clause-some : goal.returns-then-asks-clause-some
returns-then-asks-clause-some c = λ n paths t stands.
    let at = c.loop-place.invariant n paths t stands in
    record {
      call = c.index-waiting-place.result;
      there = slice_get-get_or c.args.waiting.now c.loop-place.place c.index-waiting-place.result c.loop-place-test.true ∙ ap Some (sym c.index-waiting-place.is);
      can = subst (OpCanStart n paths t) c.op.ensures ((c.asks.ensures.answer n paths t stands at.1).0 c.if-asks.true);
      earlier = at.0;
    }

pub loop-place-preserved : goal.loop-place-preserved
loop-place-preserved c = λ n paths t stands.
    let at = c.loop-place.invariant n paths t stands in (
      Every-more (λ (w : WaitingCall). CanStart n paths t w → ⊥) c.args.waiting.now c.loop-place.place c.index-waiting-place.result at.0
          (slice_get-get_or c.args.waiting.now c.loop-place.place c.index-waiting-place.result c.loop-place-test.true ∙ ap Some (sym c.index-waiting-place.is))
          (λ can. true_false c.asks.result ((c.asks.ensures.answer n paths t stands at.1).1 (subst (OpCanStart n paths t) (sym c.op.ensures) can)) c.if-asks.false),
      c.asks.ensures.refused n paths t stands at.1,
    )
