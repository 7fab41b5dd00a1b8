use Rattle.std.proofs.Common.{List, None, refl, sym, ap, subst, ◌∙◌}
use Rattle.std.specs.Prelude.{◌≢◌}
use Rattle.std.specs.Arc.{arc_value}
use Rattle.decl_core.specs.Bodies.{body_of}
use Rattle.decl_core.specs.Touched.{Writes}
use Rattle.page_core.specs.PartPins.{PartPin, pin_at}
use Rattle.page_core.specs.CallPins.{Call}
use Rattle.page_core.specs.Truths.{PinsAreWhole}
use Rattle.run_core.specs.Tasks.{task_call}
use Rattle.run_core.specs.declared.phase.Phase.TheVariants.{Ended}
use Rattle.page_core.specs.Outcomes.{outcome_call, outcome_reply, outcome_news}
use Rattle.run_core.specs.Phases.{news_in, HasItsReads, FoundBy}
use Rattle.run_core.specs.Steps.{ReadsItsPart, place_in}
use Rattle.page_core.proofs.Inside.{surely_written, done_has}
use Rattle.run_core.proofs.Telling.{told_of, renewed_of}
use Rattle.run_core.proofs.run.Run.outcome.Goals as goal

pub invariant_of-result : goal.invariant_of-result
invariant_of-result c = record {
  inside = λ p has none. has refl;
  reading = subst (λ ph. ReadsItsPart (task_call c.args.self.task) (place_in ph)) c.in-Reading.is c.args.self.reading;
  reads = subst (λ ph. HasItsReads (arc_value c.args.self.task.operation) ph) c.in-Reading.is c.args.self.reads;
}

pub returns-in-Ended-clause-writes : goal.returns-in-Ended-clause-writes
returns-in-Ended-clause-writes c = λ p has.
    let call = task_call c.args.self.task in
    let some : pin_at c.in-Ended.left.news p ≢ None = λ none. done_has (outcome_reply c.outcome_of.result) (outcome_news c.outcome_of.result) p has (ap (λ (l : List PartPin). pin_at l p) c.outcome_of.ensures.news ∙ none) in
    let writes : (Writes (body_of call.operation).statements p → ⊥) → ⊥ = c.args.self.inside p (λ none. some (sym (ap (λ ph. pin_at (news_in ph) p) c.in-Ended.is) ∙ none)) in
    surely_written (body_of (outcome_call c.outcome_of.result).operation).statements p (subst (λ (other : Call). (Writes (body_of other.operation).statements p → ⊥) → ⊥) (sym c.outcome_of.ensures.call) writes)

pub returns-in-Ended-clause-told : goal.returns-in-Ended-clause-told
returns-in-Ended-clause-told c = λ a so whole.
    let call = task_call c.args.self.task in
    let found : FoundBy a call (Ended c.in-Ended.reply c.in-Ended.left) = subst (λ ph. FoundBy a call ph) c.in-Ended.is (so.found (subst (λ (other : Call). PinsAreWhole a other) c.outcome_of.ensures.call whole)) in
    told_of a call _ _ _ c.in-Ended.left.news _ c.outcome_of.ensures.call c.outcome_of.ensures.reply c.outcome_of.ensures.news found.0

pub returns-in-Ended-clause-renewed : goal.returns-in-Ended-clause-renewed
returns-in-Ended-clause-renewed c = λ a so whole.
    let call = task_call c.args.self.task in
    let left = c.in-Ended.left in
    let found : FoundBy a call (Ended c.in-Ended.reply left) = subst (λ ph. FoundBy a call ph) c.in-Ended.is (so.found (subst (λ (other : Call). PinsAreWhole a other) c.outcome_of.ensures.call whole)) in
    renewed_of a call _ _ _ left.sealed.items _ left.news _ left.gone.items _ c.outcome_of.ensures.call c.outcome_of.ensures.reply c.outcome_of.ensures.sealed c.outcome_of.ensures.news c.outcome_of.ensures.gone found.1
