use Rattle.std.proofs.Common.{◌≢◌, ◌<◌, [], codes, sym, subst, arith}
use Rattle.value_core.specs.Reply.{reply}
use Rattle.path_count.specs.Stands.{StandsFor, started_calls}
use Rattle.path_count.specs.Calls.{spent, blocked}
use Rattle.path_count.proofs.Calling.{told_started, clash}
use Rattle.path_count.proofs.paths.calls.start_operation.Goals as goal

pub returns-then-start : goal.returns-then-start
returns-then-start c = (
  reply (codes "started ") c.args.name.now,
  c.in_ok-push_reply.ensures,
  λ n paths t stands within.
      let admitted = (c.start.ensures.answer n paths t stands).0 c.if-start.true in
      told_started c.start.new.self n paths t c.args.op c.args.name.now admitted.2 admitted.1 (λ call. c.start.ensures.taken c.if-start.true n paths t call stands),
)

pub returns-then-spent : goal.returns-then-spent
returns-then-spent c =
    let same = c.start.ensures.refused c.if-start.false in (
      reply (codes "spent") [],
      c.in_ok-push_reply-2.ensures,
      λ n paths t stands within.
          let kept = subst (λ s. StandsFor s n paths t) (sym same) stands in
          (t, kept, spent ((c.spent.ensures n paths t kept).0 c.if-spent.true)),
    )

pub returns : goal.returns
returns c =
    let same = c.start.ensures.refused c.if-start.false in (
      reply (codes "blocked ") c.args.name.now,
      c.in_ok-push_reply-3.ensures,
      λ n paths t stands within.
          let kept = subst (λ s. StandsFor s n paths t) (sym same) stands in
          let unspent : started_calls t ≢ 65536 = λ all. clash c.spent.result ((c.spent.ensures n paths t kept).1 all) c.if-spent.false in
          let few : started_calls t < 65536 = omega (arith, stands.few, stands.taken) in
          (t, kept, blocked unspent (λ may. clash c.start.result ((c.start.ensures.answer n paths t stands).1 (within, may, few)) c.if-start.false)),
    )
