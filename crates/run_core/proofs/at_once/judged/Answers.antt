use Rattle.std.proofs.Common.{◌<◌, inl, inr, refl, sym, subst, arith, ◌+◌}
use Rattle.std.proofs.lemmas.Bool.{cases_lt}
use Rattle.run_core.specs.Tasks.{task_call}
use Rattle.run_core.proofs.Paging.{paged_there}
use Rattle.run_core.proofs.MadeAtOnce.{page_on, pages_over, page_fails}
use Rattle.run_core.proofs.at_once.judged.Goals as goal

pub read_more-requires-clause-part : goal.read_more-requires-clause-part
read_more-requires-clause-part g c =
    let next = c.in-Needs.ensures.next c.in-Needs.part c.in-Needs.page refl in
    c.args.task.now.low c.in-Needs.part next.wanted.named.named

pub read_more-requires-clause-page : goal.read_more-requires-clause-page
read_more-requires-clause-page g c =
    let next = c.in-Needs.ensures.next c.in-Needs.part c.in-Needs.page refl in
    next.few

pub read_more-requires-clause-clear : goal.read_more-requires-clause-clear
read_more-requires-clause-clear g c =
    let next = c.in-Needs.ensures.next c.in-Needs.part c.in-Needs.page refl in
    next.clear

pub loop-part-preserved : goal.loop-part-preserved
loop-part-preserved g c =
    let call = task_call c.args.task.now in
    let was = c.loop-part.invariant in
    let before = c.loop-part.seen in
    let part = c.in-Needs.part in
    let page = c.in-Needs.page in
    let next = c.in-Needs.ensures.next part page refl in
    let there = c.in-Some.ensures.there in
    record {
      kept = λ a agrees. was.kept a (c.in-Ok.ensures.kept a agrees);
      seen = λ a agrees whole first.
          let seen = was.seen a (c.in-Ok.ensures.kept a agrees) whole first in
          c.in-Ok.ensures.found a agrees call there.0 (paged_there a call before.known before.read.items part page (c.args.task.now.low part next.wanted.named.named) next.few next.clear seen) there.1 there.2 whole seen;
      reads = λ p reads. subst (λ n. p < n) (sym c.in-Ok.ensures.long) (was.reads p reads);
      none = elim (cases_lt (g.H.Hand.failed c.loop-part.hand) (g.H.Hand.failed c.read_more.new.hand)) [
        | inl lt ↦ absurd (c.in-Ok.ensures.rises lt)
        | inr ge ↦ omega (arith, ge, c.in-Ok.ensures.counted, was.none)
      ];
      makes = page_on g.H.Hand.makes call c.args.seen.now.known before.known c.read_more.new.seen.known part page c.in-Some.stamp c.in-Ok.field-0 c.args.hand.now c.loop-part.hand c.read_more.new.hand was.makes next (there.0, there.1, there.2) c.in-Ok.ensures.more c.in-Ok.ensures.makes;
      earlier = λ n b is. was.earlier n b (c.in-Ok.ensures.earlier n b is);
      serves = λ s is. c.in-Ok.ensures.serves s (was.serves s is);
      works = λ always n. c.in-Ok.ensures.works n (was.works always n) (was.works always (n + 1));
    }

pub returns-in_default-clause-found : goal.returns-in_default-clause-found
returns-in_default-clause-found g c = λ a agrees whole first.
    let seen = c.loop-part.invariant.seen a agrees whole first in
    (seen, c.judge_seen.ensures.told a whole seen)

pub returns-in_default-clause-over : goal.returns-in_default-clause-over
returns-in_default-clause-over g c = λ p k is. c.in_default.not-Needs p k is

pub returns-in_default-clause-makes : goal.returns-in_default-clause-makes
returns-in_default-clause-makes g c = pages_over g.H.Hand.makes (task_call c.args.task.now) c.args.seen.now.known c.loop-part.seen.known c.args.hand.now c.loop-part.hand c.loop-part.invariant.makes

pub returns-in_default-page_of-clause-makes : goal.returns-in_default-page_of-clause-makes
returns-in_default-page_of-clause-makes g c = pages_over g.H.Hand.makes (task_call c.args.task.now) c.args.seen.now.known c.loop-part.seen.known c.args.hand.now c.loop-part.hand c.loop-part.invariant.makes

pub returns-in-Err-clause-makes : goal.returns-in-Err-clause-makes
returns-in-Err-clause-makes g c =
    let there = c.in-Some.ensures.there in
    page_fails g.H.Hand.makes (task_call c.args.task.now) c.args.seen.now.known c.loop-part.seen.known c.in-Needs.part c.in-Needs.page c.in-Some.stamp c.in-Err.fault c.args.hand.now c.loop-part.hand c.read_more.new.hand c.loop-part.invariant.makes
    (c.in-Needs.ensures.next c.in-Needs.part c.in-Needs.page refl) (there.0, there.1, there.2) c.in-Err.ensures.makes

pub returns-in-Err-clause-works : goal.returns-in-Err-clause-works
returns-in-Err-clause-works g c = λ always n. c.in-Err.ensures.works n (c.loop-part.invariant.works always n) (c.loop-part.invariant.works always (n + 1))

pub returns-in-Err-clause-in_order : goal.returns-in-Err-clause-in_order
returns-in-Err-clause-in_order g c = λ always served is.
    let next = c.in-Needs.ensures.next c.in-Needs.part c.in-Needs.page refl in
    let there = c.in-Some.ensures.there in
    c.in-Err.ensures.in_order (c.loop-part.invariant.works always 1) (c.loop-part.invariant.serves c.in-Some.stamp (served c.in-Needs.part c.in-Needs.page next.wanted.named.named there.0 c.in-Some.stamp there.1 there.2)) is
