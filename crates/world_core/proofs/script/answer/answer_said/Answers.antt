use Rattle.std.proofs.Common.{sym, subst}
use Rattle.word_core.specs.ScriptView.{said_view}
use Rattle.word_core.specs.Said.{a_call, a_keyed_call}
use Rattle.world_core.specs.Events.{call, call_key, step, finish, cancel, leave, resume, look}
use Rattle.world_core.specs.Does.{IsEvent, calls, calls_by, steps, finishes, cancels_it, leaves, is_back, looks}
use Rattle.world_core.proofs.ScriptTelling.{told_event}
use Rattle.world_core.proofs.script.answer.answer_said.Goals as goal

pub returns-in-Call : goal.returns-in-Call
returns-in-Call c =
    told_event c.tell_event.result c.tell_event.new.out.items c.args.out.now.items (said_view c.args.said) _ _ c.args.world.now c.tell_event.new.world
    (subst (λ s. IsEvent (said_view s) (call (record { session = c.in-Call.session; name = c.in-Call.op.now; arguments = c.deref.result.now })) 0) (sym c.in-Call.is) (subst (λ xs. IsEvent (a_call c.in-Call.session c.in-Call.op.now c.in-Call.arguments.items) (call (record { session = c.in-Call.session; name = c.in-Call.op.now; arguments = xs })) 0) (sym c.deref.ensures.value) calls)) c.tell_event.ensures

pub returns-in-CallKey : goal.returns-in-CallKey
returns-in-CallKey c =
    told_event c.tell_event-in-CallKey.result c.tell_event-in-CallKey.new.out.items c.args.out.now.items (said_view c.args.said) _ _ c.args.world.now c.tell_event-in-CallKey.new.world
    (subst (λ s. IsEvent (said_view s) (call_key (record { session = c.in-CallKey.session; name = c.in-CallKey.op.now; arguments = c.deref-in-CallKey.result.now }) c.in-CallKey.key) 0) (sym c.in-CallKey.is)
    (subst (λ xs. IsEvent (a_keyed_call c.in-CallKey.session c.in-CallKey.key c.in-CallKey.op.now c.in-CallKey.arguments.items) (call_key (record { session = c.in-CallKey.session; name = c.in-CallKey.op.now; arguments = xs }) c.in-CallKey.key) 0) (sym c.deref-in-CallKey.ensures.value) calls_by)) c.tell_event-in-CallKey.ensures

pub returns-in-Step : goal.returns-in-Step
returns-in-Step c =
    told_event c.tell_event-in-Step.result c.tell_event-in-Step.new.out.items c.args.out.now.items (said_view c.args.said) _ _ c.args.world.now c.tell_event-in-Step.new.world
    (subst (λ s. IsEvent (said_view s) (step c.in-Step.number c.in-Step.works) c.in-Step.number) (sym c.in-Step.is) steps) c.tell_event-in-Step.ensures

pub returns-in-Finish : goal.returns-in-Finish
returns-in-Finish c =
    told_event c.tell_event-in-Finish.result c.tell_event-in-Finish.new.out.items c.args.out.now.items (said_view c.args.said) _ _ c.args.world.now c.tell_event-in-Finish.new.world
    (subst (λ s. IsEvent (said_view s) (finish c.in-Finish.number) c.in-Finish.number) (sym c.in-Finish.is) finishes) c.tell_event-in-Finish.ensures

pub returns-in-Cancel : goal.returns-in-Cancel
returns-in-Cancel c =
    told_event c.tell_event-in-Cancel.result c.tell_event-in-Cancel.new.out.items c.args.out.now.items (said_view c.args.said) _ _ c.args.world.now c.tell_event-in-Cancel.new.world
    (subst (λ s. IsEvent (said_view s) (cancel c.in-Cancel.number) c.in-Cancel.number) (sym c.in-Cancel.is) cancels_it) c.tell_event-in-Cancel.ensures

pub returns-in-Drop : goal.returns-in-Drop
returns-in-Drop c =
    told_event c.tell_event-in-Drop.result c.tell_event-in-Drop.new.out.items c.args.out.now.items (said_view c.args.said) _ _ c.args.world.now c.tell_event-in-Drop.new.world
    (subst (λ s. IsEvent (said_view s) (leave c.in-Drop.session) c.in-Drop.session) (sym c.in-Drop.is) leaves) c.tell_event-in-Drop.ensures

pub returns-in-Resume : goal.returns-in-Resume
returns-in-Resume c =
    told_event c.tell_event-in-Resume.result c.tell_event-in-Resume.new.out.items c.args.out.now.items (said_view c.args.said) _ _ c.args.world.now c.tell_event-in-Resume.new.world
    (subst (λ s. IsEvent (said_view s) (resume c.in-Resume.session) c.in-Resume.session) (sym c.in-Resume.is) is_back) c.tell_event-in-Resume.ensures

pub returns-in-Show : goal.returns-in-Show
returns-in-Show c =
    told_event c.tell_event-in-Show.result c.tell_event-in-Show.new.out.items c.args.out.now.items (said_view c.args.said) _ _ c.args.world.now c.tell_event-in-Show.new.world
    (subst (λ s. IsEvent (said_view s) look 0) (sym c.in-Show.is) looks) c.tell_event-in-Show.ensures
