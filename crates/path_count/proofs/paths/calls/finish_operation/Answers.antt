use Rattle.std.proofs.Common.{codes, sym, subst}
use Rattle.value_core.specs.Reply.{reply}
use Rattle.path_count.specs.Stands.{StandsFor}
use Rattle.path_count.specs.Calls.{not_running}
use Rattle.path_count.proofs.Calling.{told_finished, clash, not_below}
use Rattle.path_tree.specs.Trace.{starts, ends}
use Rattle.path_count.proofs.paths.calls.finish_operation.Goals as goal

pub returns-then-finish : goal.returns-then-finish
returns-then-finish c = (
  reply (codes "finished ") c.args.name.now,
  c.in_ok-push_reply.ensures,
  λ n paths t stands within.
      let runs = (c.finish.ensures.answer n paths t stands).0 c.if-finish.true in
      told_finished c.finish.new.self n paths t c.args.op c.args.name.now stands.trace runs.1 (λ call. c.finish.ensures.ended c.if-finish.true n paths t call stands),
)

pub returns : goal.returns
returns c =
    let same = c.finish.ensures.refused c.if-finish.false in (
      reply (codes "not running ") c.args.name.now,
      c.in_ok-push_reply-2.ensures,
      λ n paths t stands within.
          let kept = subst (λ s. StandsFor s n paths t) (sym same) stands in
          (t, kept, not_running (not_below (ends c.args.op t) (starts c.args.op t) (λ runs. clash c.finish.result ((c.finish.ensures.answer n paths t stands).1 (within, runs)) c.if-finish.false))),
    )
