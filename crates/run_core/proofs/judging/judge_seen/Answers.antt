use Rattle.std.proofs.Common.{sym, subst}
use Rattle.std.specs.Arc.{arc_value}
use Rattle.decl_core.specs.declared.object.Operation.{Operation}
use Rattle.known_core.specs.Wanted.{IsWanted}
use Rattle.run_core.specs.Tasks.{task_call}
use Rattle.run_core.proofs.Told.{told, next_of}
use Rattle.run_core.proofs.judging.judge_seen.Goals as goal

pub returns-clause-told : goal.returns-clause-told
returns-clause-told c = λ a pins seen.
    told a (task_call c.args.task.now) c.args.seen.now.known c.args.seen.now.read.items seen c.fit-known.result c.deref-2.result.now c.deref-3.result.now c.deref-4.result.now c.judge.result
    (c.fit-known.ensures.kept (λ p small not. seen.rest p small (λ wanted. not (subst (λ (o : Operation). IsWanted o p) (sym c.deref.ensures) wanted))))
    c.deref-2.ensures c.deref-3.ensures.value c.deref-4.ensures.value c.judge.ensures.judged

pub returns-clause-next : goal.returns-clause-next
returns-clause-next c = λ p k is.
    next_of c.args.seen.now.known c.fit-known.result c.deref-2.result.now (arc_value c.args.task.now.operation) c.judge.result p k c.deref-2.ensures
    (λ q wanted. c.fit-known.ensures.same q (subst (λ (o : Operation). IsWanted o q) (sym c.deref.ensures) (subst (λ (o : Operation). IsWanted o q) c.deref-2.ensures wanted))) is c.judge.ensures.next
