use Rattle.std.proofs.Common.{rules, ◌≡◌, arith, ap, sym, subst, ◌∙◌, ◌+◌, inl, inr, Some}
use Rattle.std.proofs.lemmas.Bool.{cases_lt}
use Rattle.apply_core.specs.declared.reply.Reply.{Reply}
use Rattle.run_core.specs.Steps.{AreServed}
use Rattle.run_core.proofs.Serving.{running}
use Rattle.page_core.proofs.ListBytes.{some_same}
use Rattle.run_core.specs.Runs.{run_call, run_ending, run_place, run_sealed, PenHolds, SoFar}
use Rattle.decl_core.specs.Bodies.{body_of}
use Rattle.decl_core.specs.Touched.{Reads}
use Rattle.page_core.specs.PartPins.{pin_at}
use Rattle.page_core.specs.CallPins.{Call}
use Rattle.run_core.proofs.Leading.{ends, one_more}
use Rattle.run_core.proofs.perform.perform.Goals as goal

pub returns-in-Ok-clause-steps : goal.returns-in-Ok-clause-steps
returns-in-Ok-clause-steps g c = ends (run_call c.args.run) (run_place c.args.run) c.loop-outcome.run _ _ c.in-Ok.ensures.reply c.in-Ok.ensures.sealed c.loop-outcome.invariant.steps

pub loop-outcome-preserved : goal.loop-outcome-preserved
loop-outcome-preserved g c = record {
  call = search rules;
  steps = one_more (run_call c.args.run) (run_call c.in-Err.back) (run_place c.args.run) (run_place c.loop-outcome.run) (run_place c.in-Err.back) (run_place c.step.new.self)
      (ap run_call c.in-Err.ensures.back ∙ c.loop-outcome.invariant.call) (ap run_place c.in-Err.ensures.back) c.step.ensures.steps c.loop-outcome.invariant.steps;
  kept = λ a is. c.loop-outcome.invariant.kept a (c.step.ensures.kept a is);
  pen = λ holds. c.step.ensures.pen (subst (λ r. PenHolds (g.H.Hand.pending c.loop-outcome.hand) r) (sym c.in-Err.ensures.back) (c.loop-outcome.invariant.pen holds));
  found = λ holds a is so. c.step.ensures.found (subst (λ r. PenHolds (g.H.Hand.pending c.loop-outcome.hand) r) (sym c.in-Err.ensures.back) (c.loop-outcome.invariant.pen holds)) a is (subst (λ r. SoFar a r) (sym c.in-Err.ensures.back) (c.loop-outcome.invariant.found holds a (c.step.ensures.kept a is) so));
  serves = λ s is. c.step.ensures.serves s (c.loop-outcome.invariant.serves s is);
  works = λ always n. c.step.ensures.works n (c.loop-outcome.invariant.works always n) (c.loop-outcome.invariant.works always (n + 1));
  written = λ was. c.step.ensures.written (subst (λ r. AreServed (g.H.Hand.serves c.loop-outcome.hand) (run_sealed r)) (sym c.in-Err.ensures.back) (c.loop-outcome.invariant.written was));
  in_order = λ always pen pins none is.
      let same : run_call c.in-Err.back ≡ run_call c.args.run = ap run_call c.in-Err.ensures.back ∙ c.loop-outcome.invariant.call in
      c.step.ensures.in_order (c.loop-outcome.invariant.works always 1) (subst (λ r. PenHolds (g.H.Hand.pending c.loop-outcome.hand) r) (sym c.in-Err.ensures.back) (c.loop-outcome.invariant.pen pen))
      (λ p page reads pages stamp pin at. c.loop-outcome.invariant.serves stamp (pins p page (subst (λ (call : Call). Reads (body_of call.operation).statements p) same reads) pages stamp (ap (λ (call : Call). pin_at call.pins p) (sym same) ∙ pin) at)) c.in-Err.ensures.begun is;
  rises = λ up. elim (cases_lt (g.H.Hand.failed c.args.hand.now) (g.H.Hand.failed c.loop-outcome.hand)) [
    | inl lt ↦ absurd (running (sym (ap run_ending c.in-Err.ensures.back) ∙ c.in-Err.ensures.begun) (c.loop-outcome.invariant.rises lt))
    | inr le ↦ c.step.ensures.rises (omega (arith, le, up))
  ];
  counted = search rules;
  cause = search rules;
}

pub returns-in-Ok-clause-in_order : goal.returns-in-Ok-clause-in_order
returns-in-Ok-clause-in_order g c = λ always pen pins none is. c.loop-outcome.invariant.in_order always pen pins none (c.in-Ok.ensures.reply ∙ ap (λ (r : Reply). Some r) is)

pub returns-in-Ok-clause-rises : goal.returns-in-Ok-clause-rises
returns-in-Ok-clause-rises g c = λ up. some_same (sym c.in-Ok.ensures.reply ∙ c.loop-outcome.invariant.rises up)

pub returns-in-Ok-clause-written : goal.returns-in-Ok-clause-written
returns-in-Ok-clause-written g c = λ was. subst (AreServed (g.H.Hand.serves c.loop-outcome.hand)) (sym c.in-Ok.ensures.sealed) (c.loop-outcome.invariant.written was)

pub returns-in-Ok-clause-told : goal.returns-in-Ok-clause-told
returns-in-Ok-clause-told g c = λ holds a agrees so. c.in-Ok.ensures.told a (c.loop-outcome.invariant.found holds a agrees so)

pub returns-in-Ok-clause-renewed : goal.returns-in-Ok-clause-renewed
returns-in-Ok-clause-renewed g c = λ holds a agrees so. c.in-Ok.ensures.renewed a (c.loop-outcome.invariant.found holds a agrees so)
