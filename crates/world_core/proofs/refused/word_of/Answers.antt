use Rattle.std.proofs.Common.{sym, subst}
use Rattle.std.specs.Prelude.{None, Some}
use Rattle.word_core.specs.Said.{a_call, a_keyed_call, a_do}
use Rattle.word_core.specs.ScriptView.{said_view}
use Rattle.world_core.specs.HoldDoes.{Asks, asked, by_call, by_do, by_key}
use Rattle.world_core.proofs.refused.word_of.Goals as goal

pub returns-in-Call : goal.returns-in-Call
returns-in-Call c =
    c.word_for.ensures (said_view c.args.said.now)
    (subst (λ s. Asks (said_view s) (asked c.in-Call.session c.in-Call.op.now c.deref.result.now) None) (sym c.in-Call.is) (subst (λ xs. Asks (a_call c.in-Call.session c.in-Call.op.now c.in-Call.arguments.items) (asked c.in-Call.session c.in-Call.op.now xs) None) (sym c.deref.ensures.value) by_call))

pub returns-in-CallKey : goal.returns-in-CallKey
returns-in-CallKey c =
    c.word_for-in-CallKey.ensures (said_view c.args.said.now)
    (subst (λ s. Asks (said_view s) (asked c.in-CallKey.session c.in-CallKey.op.now c.deref-in-CallKey.result.now) (Some c.in-CallKey.key)) (sym c.in-CallKey.is) (subst (λ xs. Asks (a_keyed_call c.in-CallKey.session c.in-CallKey.key c.in-CallKey.op.now c.in-CallKey.arguments.items) (asked c.in-CallKey.session c.in-CallKey.op.now xs) (Some c.in-CallKey.key)) (sym c.deref-in-CallKey.ensures.value) by_key))

pub returns-in-Do : goal.returns-in-Do
returns-in-Do c =
    c.word_for-in-Do.ensures (said_view c.args.said.now)
    (subst (λ s. Asks (said_view s) (asked c.in-Do.session c.in-Do.op.now c.deref-in-Do.result.now) None) (sym c.in-Do.is) (subst (λ xs. Asks (a_do c.in-Do.session c.in-Do.op.now c.in-Do.arguments.items) (asked c.in-Do.session c.in-Do.op.now xs) None) (sym c.deref-in-Do.ensures.value) by_do))
