use Rattle.std.proofs.Common.{ℕ, List, ap, subst, ◌∙◌, arith}
use Rattle.std.specs.Arc.{arc_value}
use Rattle.decl_core.specs.Bodies.{body_of}
use Rattle.apply_core.specs.declared.reply.Reply.TheVariants as replies
use Rattle.page_core.specs.PartPins.{PartPin, pin_at}
use Rattle.run_core.specs.CallPlanned.{IsPlanned}
use Rattle.run_core.specs.Tasks.{task_call}
use Rattle.run_core.proofs.Inside.{none_has, plan_writes}
use Rattle.run_core.proofs.Stepping.{ended_there, judged_there, ended_reads, begun_reads}
use Rattle.run_core.proofs.Writing.{written_first, none_written}
use Rattle.run_core.proofs.conclude.begin.Goals as goal

pub returns-in-Ok-clause-found : goal.returns-in-Ok-clause-found
returns-in-Ok-clause-found c = λ a whole seen given.
    let task = c.args.task.now in
    let pages = c.in-Ok.pages in
    c.go_on.ensures.found a (task_call task)
    (written_first a (task_call task) c.args.reply pages
    (c.plans_are_whole.ensures a (task_call task) c.args.seen.now.known c.args.seen.now.read.items c.args.reply c.args.changes.now pages.counts pages.stamps.items pages.writes.items pages.gone.items whole
    (λ p reads. task.pinned p (task.named p reads)) seen c.requires.rising given
    (subst (λ (rows : List (List ℕ)). IsPlanned task.pins rows c.args.changes.now pages.counts pages.stamps.items pages.writes.items pages.gone.items) c.deref.ensures.value c.in-Ok.ensures.planned)) c.in-Ok.ensures.fresh)

pub returns-in-Ok-clause-settled : goal.returns-in-Ok-clause-settled
returns-in-Ok-clause-settled c = λ none.
    c.go_on.ensures.settled (none_written c.args.task.now.pins c.deref.result.now c.args.changes.now c.in-Ok.pages.counts c.in-Ok.pages.stamps.items c.in-Ok.pages.writes.items c.in-Ok.pages.gone.items c.in-Ok.ensures.planned none)

pub returns-in-Ok-clause-steps : goal.returns-in-Ok-clause-steps
returns-in-Ok-clause-steps c = λ known.
    judged_there (task_call c.args.task.now) known c.in-Ok.pages.writes.items c.in-Ok.pages.sealed.items c.args.reply _ c.in-Ok.ensures.fresh c.go_on.ensures.more c.go_on.ensures.done

pub returns-in-Ok-clause-reads : goal.returns-in-Ok-clause-reads
returns-in-Ok-clause-reads c = begun_reads (arc_value c.args.task.now.operation) _ c.in-Ok.pages.writes.items c.in-Ok.pages.sealed.items (replies.Done c.args.reply) c.go_on.ensures.more c.go_on.ensures.done

pub returns-in-Ok-clause-news : goal.returns-in-Ok-clause-news
returns-in-Ok-clause-news c = λ p has.
    plan_writes (body_of (arc_value c.args.task.now.operation)).statements c.args.task.now.pins c.deref.result.now c.args.changes.now c.in-Ok.pages.counts c.in-Ok.pages.stamps.items c.in-Ok.pages.stamps.items c.in-Ok.pages.writes.items c.in-Ok.pages.gone.items p c.in-Ok.ensures.planned c.requires.rising
    (λ none. has (ap (λ (l : List PartPin). pin_at l p) c.go_on.ensures.news ∙ none))

pub returns-in-Ok-clause-less : goal.returns-in-Ok-clause-less
returns-in-Ok-clause-less c = omega (arith, c.go_on.ensures.less, c.in-Ok.pages.writes.ok.0, c.in-Ok.pages.writes.small)

pub returns-in-Err-clause-steps : goal.returns-in-Err-clause-steps
returns-in-Err-clause-steps c = λ known. ended_there (task_call c.args.task.now) known _ c.new.result.items _ c.new.ensures.items c.failed.ensures.place

pub returns-in-Err-clause-reads : goal.returns-in-Err-clause-reads
returns-in-Err-clause-reads c = ended_reads (arc_value c.args.task.now.operation) _ _ c.new.result.items c.failed.ensures.place

pub returns-in-Err-clause-news : goal.returns-in-Err-clause-news
returns-in-Err-clause-news c = λ p has. absurd (none_has _ p c.failed.ensures.news has)
