use Rattle.std.proofs.Common.{◌≡◌, ◌⊎◌, inl, inr, Some, rules, ap, sym, subst, ◌∙◌}
use Rattle.std.specs.Arc.{arc_value}
use Rattle.device_core.specs.Device.{IsFree}
use Rattle.page_core.specs.PartPins.{pin_at}
use Rattle.run_core.specs.Phases.{ending_of, sealed_in, news_in, pen_in, PenHoldsIn, HasItsReads, FoundBy}
use Rattle.run_core.specs.Calling.{StepMakes}
use Rattle.run_core.specs.Steps.{ReadsItsPart, place_in}
use Rattle.run_core.specs.Tasks.{task_call}
use Rattle.run_core.proofs.Serving.{step_reads, read_is_served}
use Rattle.run_core.proofs.SameRuns.{same_run}
use Rattle.run_core.proofs.run.Run.step.Goals as goal

pub invariant_of-self : goal.invariant_of-self
invariant_of-self g c =
    let before : c.replace-phase.result ≡ c.args.self.now.phase = search rules in
    let after : c.replace-old.new.dest ≡ c.advance-phase.result.0 = search rules in
    record {
      inside = λ p has none. elim (c.advance-phase.ensures.news p (λ gone. has (ap (λ ph. pin_at (news_in ph) p) after ∙ gone))) [
        | inl was ↦ c.args.self.now.inside p (λ gone. was (ap (λ ph. pin_at (news_in ph) p) before ∙ gone)) none
        | inr writes ↦ none writes
      ];
      reading = step_reads (task_call c.args.self.now.task) _ _ _ _ before after c.advance-phase.ensures.steps c.args.self.now.reading;
      reads = subst (λ ph. HasItsReads (arc_value c.args.self.now.task.operation) ph) (sym after) c.advance-phase.ensures.reads;
    }

pub advance-phase-requires : goal.advance-phase-requires
advance-phase-requires g c =
    let before : c.replace-phase.result ≡ c.args.self.now.phase = search rules in
    subst (λ ph. HasItsReads (arc_value c.args.self.now.task.operation) ph) (sym before) c.args.self.now.reads

pub returns-clause-unused : goal.returns-clause-unused
returns-clause-unused g c = λ n is.
    let before : c.replace-phase.result ≡ c.args.self.now.phase = search rules in
    let after : c.replace-old.new.dest ≡ c.advance-phase.result.0 = search rules in
    subst (λ ph. (pen_in ph ≡ Some n) ⊎ IsFree (g.H.Hand.agrees c.advance-phase.new.hand) (g.H.Hand.pending c.args.hand.now) n) before (c.advance-phase.ensures.unused n (ap pen_in (sym after) ∙ is))

pub returns-clause-others : goal.returns-clause-others
returns-clause-others g c = λ n b other is.
    let before : c.replace-phase.result ≡ c.args.self.now.phase = search rules in
    c.advance-phase.ensures.others n b (λ e. other (ap pen_in (sym before) ∙ e)) is

pub returns-clause-earlier : goal.returns-clause-earlier
returns-clause-earlier g c = λ n b other is.
    let before : c.replace-phase.result ≡ c.args.self.now.phase = search rules in
    let after : c.replace-old.new.dest ≡ c.advance-phase.result.0 = search rules in
    elim (c.advance-phase.ensures.earlier n b (λ e. other (ap pen_in (sym before) ∙ e)) is) [ inl was ↦ inl was | inr own ↦ inr (ap pen_in after ∙ own) ]

pub returns-clause-makes : goal.returns-clause-makes
returns-clause-makes g c =
    let before : c.replace-phase.result ≡ c.args.self.now.phase = search rules in
    let after : c.replace-old.new.dest ≡ c.advance-phase.result.0 = search rules in
    subst (λ ph. StepMakes g.H.Hand.makes (task_call c.args.self.now.task) ph (ending_of c.replace-old.new.dest) (sealed_in c.replace-old.new.dest) c.args.hand.now c.advance-phase.new.hand) before
    (subst (λ ph. StepMakes g.H.Hand.makes (task_call c.args.self.now.task) c.replace-phase.result (ending_of ph) (sealed_in ph) c.args.hand.now c.advance-phase.new.hand) (sym after) c.advance-phase.ensures.makes)

pub returns-clause-in_order : goal.returns-clause-in_order
returns-clause-in_order g c = λ works pen pins none is.
    let before : c.replace-phase.result ≡ c.args.self.now.phase = search rules in
    let after : c.replace-old.new.dest ≡ c.advance-phase.result.0 = search rules in
    read_is_served (g.H.Hand.serves c.args.hand.now) (task_call c.args.self.now.task) (place_in c.replace-phase.result)
    (subst (λ ph. ReadsItsPart (task_call c.args.self.now.task) (place_in ph)) (sym before) c.args.self.now.reading) pins
    (λ served. c.advance-phase.ensures.in_order works (subst (λ ph. PenHoldsIn (g.H.Hand.pending c.args.hand.now) ph) (sym before) pen) (ap ending_of before ∙ none) served)
    (ap ending_of (sym after) ∙ is)

pub returns-clause-ended : goal.returns-clause-ended
returns-clause-ended g c = λ over.
    let before : c.replace-phase.result ≡ c.args.self.now.phase = search rules in
    let after : c.replace-old.new.dest ≡ c.advance-phase.result.0 = search rules in
    same_run c.args.self.now _ _ _ _ (after ∙ c.advance-phase.ensures.ended (λ none. over (ap ending_of (sym before) ∙ none)) ∙ before)

pub returns-clause-found : goal.returns-clause-found
returns-clause-found g c = λ holds a agrees so.
    let call = task_call c.args.self.now.task in
    let before : c.replace-phase.result ≡ c.args.self.now.phase = search rules in
    let after : c.replace-old.new.dest ≡ c.advance-phase.result.0 = search rules in
    record {
      found = λ whole. subst (λ ph. FoundBy a call ph) (sym after)
          (c.advance-phase.ensures.found (subst (λ ph. PenHoldsIn (g.H.Hand.pending c.args.hand.now) ph) (sym before) holds) a agrees whole (subst (λ ph. FoundBy a call ph) (sym before) (so.found whole)));
    }
