use Rattle.std.proofs.Common.{[], ◌≤◌, ℕ, List, length, ap, sym, ◌∙◌, subst, arith, Some, None, refl}
use Rattle.std.specs.Arc.{arc_value}
use Rattle.decl_core.specs.Bodies.{body_of}
use Rattle.page_core.specs.PartPins.{PartPin, pin_at}
use Rattle.page_core.specs.Renewed.{with_sealed}
use Rattle.device_core.specs.declared.hand.Stamp.{Stamp}
use Rattle.apply_core.specs.declared.reply.Reply.TheVariants as replies
use Rattle.run_core.specs.CallPlanned.{IsPlanned}
use Rattle.run_core.specs.Tasks.{task_call}
use Rattle.run_core.proofs.Inside.{none_has, plan_writes}
use Rattle.run_core.proofs.Telling.{told_of, renewed_of}
use Rattle.run_core.proofs.Writing.{all_left}
use Rattle.run_core.proofs.WritingAll.{fault_is_true}
use Rattle.run_core.proofs.MadeAtOnce.{writes_told, writes_none, failure_in_reply, fault_of_device}
use Rattle.run_core.specs.Steps.{AreServed}
use Rattle.run_core.proofs.at_once.written.Goals as goal

pub outcome_of-requires : goal.outcome_of-requires
outcome_of-requires g c = λ p has none.
    let pages = c.in-Ok.pages in
    none (plan_writes (body_of (arc_value c.args.task.operation)).statements c.args.task.pins c.deref.result.now c.args.changes.now pages.counts pages.stamps.items (with_sealed pages.stamps.items pages.writes.items c.write_all-left.result.0.sealed.items) pages.writes.items pages.gone.items p c.in-Ok.ensures.planned c.requires.rising
    (λ gone. has (ap (λ (l : List PartPin). pin_at l p) c.write_all-left.ensures.news ∙ gone)))

pub outcome_of-requires-in-Some : goal.outcome_of-requires-in-Some
outcome_of-requires-in-Some g c = λ p has none. absurd (none_has _ p c.nothing.ensures.news has)

pub returns-in-None-clause-told : goal.returns-in-None-clause-told
returns-in-None-clause-told g c = λ a agrees whole seen given still.
    let task = c.args.task in
    let call = task_call task in
    let pages = c.in-Ok.pages in
    let left = c.write_all-left.result.0 in
    let all : length pages.writes.items ≤ length left.sealed.items = omega (arith, c.write_all-left.ensures.all c.in-None.is) in
    let plan = c.plans_are_whole.ensures a call c.args.seen.now.known c.args.seen.now.read.items c.args.reply c.args.changes.now pages.counts pages.stamps.items pages.writes.items left.gone.items whole (λ p reads. task.pinned p (task.named p reads)) seen c.requires.rising given
    (subst (λ (rows : List (List ℕ)). IsPlanned call.pins rows c.args.changes.now pages.counts pages.stamps.items pages.writes.items left.gone.items) c.deref.ensures.value
    (subst (λ (g : List Stamp). IsPlanned call.pins c.deref.result.now c.args.changes.now pages.counts pages.stamps.items pages.writes.items g) (sym c.write_all-left.ensures.gone) c.in-Ok.ensures.planned)) in
    let both = all_left a call c.args.reply plan.read plan.changes pages.counts pages.stamps.items pages.writes.items left.gone.items left.sealed.items left.news plan.planned plan.order plan.known plan.given (c.write_all-left.ensures.sealed a agrees) all c.write_all-left.ensures.news in
    told_of a call _ _ _ left.news _ c.outcome_of.ensures.call c.outcome_of.ensures.reply c.outcome_of.ensures.news both.0

pub returns-in-None-clause-renewed : goal.returns-in-None-clause-renewed
returns-in-None-clause-renewed g c = λ a agrees whole seen given.
    let task = c.args.task in
    let call = task_call task in
    let pages = c.in-Ok.pages in
    let left = c.write_all-left.result.0 in
    let all : length pages.writes.items ≤ length left.sealed.items = omega (arith, c.write_all-left.ensures.all c.in-None.is) in
    let plan = c.plans_are_whole.ensures a call c.args.seen.now.known c.args.seen.now.read.items c.args.reply c.args.changes.now pages.counts pages.stamps.items pages.writes.items left.gone.items whole (λ p reads. task.pinned p (task.named p reads)) seen c.requires.rising given
    (subst (λ (rows : List (List ℕ)). IsPlanned call.pins rows c.args.changes.now pages.counts pages.stamps.items pages.writes.items left.gone.items) c.deref.ensures.value
    (subst (λ (g : List Stamp). IsPlanned call.pins c.deref.result.now c.args.changes.now pages.counts pages.stamps.items pages.writes.items g) (sym c.write_all-left.ensures.gone) c.in-Ok.ensures.planned)) in
    let both = all_left a call c.args.reply plan.read plan.changes pages.counts pages.stamps.items pages.writes.items left.gone.items left.sealed.items left.news plan.planned plan.order plan.known plan.given (c.write_all-left.ensures.sealed a agrees) all c.write_all-left.ensures.news in
    renewed_of a call _ _ _ left.sealed.items _ left.news _ left.gone.items _ c.outcome_of.ensures.call c.outcome_of.ensures.reply c.outcome_of.ensures.sealed c.outcome_of.ensures.news c.outcome_of.ensures.gone both.1

pub returns-in-Some-clause-told : goal.returns-in-Some-clause-told
returns-in-Some-clause-told g c = λ a agrees whole seen given still.
    told_of a (task_call c.args.task) _ _ _ c.nothing.result.news _ c.outcome_of-in-Some.ensures.call (c.outcome_of-in-Some.ensures.reply ∙ ap replies.Failed c.failure.ensures) c.outcome_of-in-Some.ensures.news (fault_is_true a (task_call c.args.task) c.in-Some.fault c.nothing.result.news)

pub returns-in-None-clause-makes : goal.returns-in-None-clause-makes
returns-in-None-clause-makes g c =
    let made = c.write_all-left.ensures.makes in
    (made.0, made.1, writes_told c.in-Ok.pages.writes.items made.0 c.write_all-left.result.0.sealed.items _ c.write_all-left.result.1 _ c.outcome_of.ensures.sealed made.2 (rw c.in-None.is tt))

pub returns-in-Some-clause-makes : goal.returns-in-Some-clause-makes
returns-in-Some-clause-makes g c =
    let made = c.write_all-left.ensures.makes in
    (made.0, made.1, writes_told c.in-Ok.pages.writes.items made.0 c.write_all-left.result.0.sealed.items _ c.write_all-left.result.1 _ (c.outcome_of-in-Some.ensures.sealed ∙ c.nothing.ensures.sealed) made.2 (rw c.in-Some.is (c.outcome_of-in-Some.ensures.reply ∙ ap replies.Failed c.failure.ensures)))

pub returns-in-Err-clause-makes : goal.returns-in-Err-clause-makes
returns-in-Err-clause-makes g c = ([], refl, writes_none _ _ c.over.ensures.sealed)

pub returns-in-None-clause-written : goal.returns-in-None-clause-written
returns-in-None-clause-written g c = subst (AreServed (g.H.Hand.serves c.write_all-left.new.hand)) (sym c.outcome_of.ensures.sealed) c.write_all-left.ensures.written

pub returns-in-Some-clause-written : goal.returns-in-Some-clause-written
returns-in-Some-clause-written g c = subst (AreServed (g.H.Hand.serves c.write_all-left.new.hand)) (sym (c.outcome_of-in-Some.ensures.sealed ∙ c.nothing.ensures.sealed)) c.write_all-left.ensures.written
