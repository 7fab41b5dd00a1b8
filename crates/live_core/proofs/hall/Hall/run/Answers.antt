use Rattle.std.proofs.Common.{◌≡◌, ◌∙◌, ◌<◌, ap, refl, sym, subst, Some, length}
use Rattle.std.specs.Prelude.{slice_get}
use Rattle.path_tree.specs.Trace.{Call, IsFresh}
use Rattle.path_tree.specs.Satisfies.{MayStart}
use Rattle.decl_core.specs.ObjectMap.{object_of}
use Rattle.live_core.specs.declared.call.Ran.{Ran}
use Rattle.live_core.specs.Hall.{Hall, Told, IsKept, trace}
use Rattle.live_core.specs.Bodies.{IsFirstAt}
use Rattle.live_core.specs.Steps.{RunsOne}
use Rattle.live_core.specs.Settles.{with_ran}
use Rattle.live_core.specs.View.{hall_of}
use Rattle.live_core.proofs.Kept.{ran_one}
use Rattle.live_core.proofs.hall.Hall.run.Goals as goal

abbrev behind : goal.After-do_call-reply → Hall
behind c = record {
  object = c.self.inside.object;
  counters = c.pass.new.counters;
  contents = c.do_call-reply.new.parts.items;
  waiting = c.take-call.new.self;
  given = c.self.inside.given;
  before = c.self.inside.before;
  sessions = c.self.inside.limits.sessions;
  room = c.self.inside.limits.waiting;
}

abbrev ran : goal.After-do_call-reply → Ran
ran c = record { call = c.take-call.result; reply = c.do_call-reply.result }

runs : (c : goal.After-do_call-reply) → (t : Told) → IsKept (hall_of c.self.inside) t → RunsOne (hall_of c.self.inside) t (ran c) (behind c)
runs c t kept =
    let h = hall_of c.self.inside in
    let call = c.take-call.result in
    let all : (t : Told) → IsKept h t → IsFirstAt (object_of h.object).paths (trace t) h.waiting c.args.place =
    subst (λ x. (t : Told) → IsKept x t → IsFirstAt (object_of x.object).paths (trace t) x.waiting c.args.place) (sym c.self.view_is) c.requires.first in
    let first = all t kept in
    let is : slice_get h.waiting c.args.place ≡ Some call = first.there ∙ ap Some (sym (c.take-call.ensures.call first.call first.there)) in
    ran_one h (behind c) t c.args.place call c.do_call-reply.result kept first is refl refl refl c.take-call.ensures.rest
    (λ one e stood known may few fresh. c.pass.ensures _ _ (trace t) one stood (ap (λ (x : Call). x.operation) e ∙ sym c.operation.ensures)
    (subst (λ op. op < length (object_of h.object).operations) (sym c.operation.ensures) known) (subst (λ op. MayStart (object_of h.object).paths op (trace t)) (sym c.operation.ensures) may) few
    (subst (λ (x : Call). IsFresh x.number (trace t)) (sym e) fresh))
    c.do_call-reply.ensures.reply c.do_call-reply.ensures.parts c.do_call-reply.ensures.kinds c.do_call-reply.ensures.fails

pub invariant_of-self : goal.invariant_of-self
invariant_of-self c = (with_ran c.self.invariant.0 (ran c), (runs c c.self.invariant.0 c.self.invariant.1).kept)

pub returns-clause-runs : goal.returns-clause-runs
returns-clause-runs c = subst (λ h. (t : Told) → IsKept h t → RunsOne h t (ran c) (behind c)) c.self.view_is (runs c)
