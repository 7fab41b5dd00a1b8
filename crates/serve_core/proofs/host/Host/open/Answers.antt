use Rattle.std.proofs.Common.{◌∙◌, ap, sym, subst, refl, length, arith}
use Rattle.serve_core.specs.Runs.{named_in, IsNotOpenedOf}
use Rattle.serve_core.proofs.Steps.{step_some, step_none}
use Rattle.serve_core.proofs.Openings.{opened_none, opened_more, opened_all, loaded_all, pinned_all, opened_not}
use Rattle.serve_core.proofs.host.Host.open.Goals as goal

pub loop-accepted-init : goal.loop-accepted-init
loop-accepted-init g c =
    let gives = c.into_iter-accepted-iterator.ensures.into_iter_gives in
    record {
      so = opened_none (g.S.Shelf.holds c.args.self.now.closing.parts) (g.K.Hand.agrees c.args.self.now.closing.hand) _ _ _ _ _ gives.0 (omega (arith, gives.1, ap length gives.0, c.args.ready.ok.0)) (ap named_in c.new.ensures.items) c.new-2.ensures.items;
      many = ap length c.new-2.ensures.items ∙ sym (ap length c.new.ensures.items);
      traces = refl;
      trouble = refl;
      hands = refl;
    }

pub loop-accepted-preserved : goal.loop-accepted-preserved
loop-accepted-preserved g c =
    let step = step_some c.loop-accepted.accepted-iterator c.next.new.self _ _ c.in-Some.is c.next.ensures.steps in
    let so = c.loop-accepted.invariant.so in
    record {
      so = opened_more c.in-Some.accepted _ _ _ c.in-Ok.opened.name _ c.in-Ok.opened.opening so step.0 step.1 c.in-Ok.ensures.name c.in-Ok-add.ensures.named c.in-Ok-add.ensures.opening
          c.in-Ok.ensures.loaded c.in-Ok.ensures.pinned c.in-Ok.ensures.papers c.in-Ok.ensures.files;
      many = c.in-Ok-add.ensures.many c.loop-accepted.invariant.many;
      traces = c.in-Ok.ensures.traces ∙ c.loop-accepted.invariant.traces;
      trouble = c.in-Ok.ensures.trouble ∙ c.loop-accepted.invariant.trouble;
      hands = c.loop-accepted.invariant.hands;
    }

pub returns-in-Err-clause-not : goal.returns-in-Err-clause-not
returns-in-Err-clause-not g c =
    let step = step_some c.loop-accepted.accepted-iterator c.next.new.self _ _ c.in-Some.is c.next.ensures.steps in
    opened_not (g.S.Shelf.holds c.open.new.self.parts) _ c.in-Some.accepted _ c.in-Err.why c.loop-accepted.invariant.so step.0 c.in-Err.ensures.not

pub returns-in-Err-add-clause-not : goal.returns-in-Err-add-clause-not
returns-in-Err-add-clause-not g c = subst (IsNotOpenedOf (g.S.Shelf.holds c.open.new.self.parts) c.args.ready.items) (sym c.in-Err-add.ensures.not) tt

pub returns-clause-named : goal.returns-clause-named
returns-clause-named g c = opened_all c.loop-accepted.invariant.so (step_none c.loop-accepted.accepted-iterator c.next.new.self _ c.in-None.is c.next.ensures.steps)

pub returns-clause-loaded : goal.returns-clause-loaded
returns-clause-loaded g c = loaded_all c.loop-accepted.invariant.so (step_none c.loop-accepted.accepted-iterator c.next.new.self _ c.in-None.is c.next.ensures.steps)

pub returns-clause-pinned : goal.returns-clause-pinned
returns-clause-pinned g c = pinned_all c.loop-accepted.invariant.so (step_none c.loop-accepted.accepted-iterator c.next.new.self _ c.in-None.is c.next.ensures.steps)
