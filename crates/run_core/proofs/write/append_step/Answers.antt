use Rattle.std.proofs.Common.{◌≡◌, ℕ, List, [], Ok, refl, ap, sym, subst, ◌∙◌, inl, inr}
use Rattle.std.specs.Prelude.{Err}
use Rattle.page_core.specs.declared.plan.PageWrite.{PageWrite}
use Rattle.page_core.proofs.ListBytes.{some_same}
use Rattle.run_core.specs.Steps.{appends}
use Rattle.run_core.proofs.Inside.{none_has}
use Rattle.run_core.proofs.Serving.{files_as_before}
use Rattle.run_core.proofs.Stepping.{failed_there, appends_first}
use Rattle.run_core.proofs.write.append_step.Goals as goal

pub returns-in-Ok-clause-steps : goal.returns-in-Ok-clause-steps
returns-in-Ok-clause-steps g c = λ call. appends

pub returns-in-Ok-clause-pen : goal.returns-in-Ok-clause-pen
returns-in-Ok-clause-pen g c = λ holds write is.
    let same : c.next.result.now ≡ write = some_same (sym c.next.ensures ∙ is) in
    let bytes : c.as_slice.result.now ≡ write.bytes = c.as_slice.ensures ∙ ap (λ (w : PageWrite). w.bytes) same in
    subst (λ n. g.H.Hand.pending c.append.new.self n write.bytes) (sym c.in-Ok.ensures.number)
    (subst (λ (b : List ℕ). g.H.Hand.pending c.append.new.self c.args.pen.number b) bytes (c.in-Ok.ensures.pen [] holds))

pub returns-in-Err-clause-steps : goal.returns-in-Err-clause-steps
returns-in-Err-clause-steps g c = λ call. failed_there call _ _ c.in-Err.fault c.given_up.result.items appends_first c.given_up.ensures c.failed.ensures.place

pub returns-in-Err-clause-makes : goal.returns-in-Err-clause-makes
returns-in-Err-clause-makes g c = (_, Err c.in-Err.fault, inr (refl, (c.append.new.self, c.append.new.pen, c.in-Err.ensures.number, c.in-Err.ensures.makes, c.discard.ensures.makes)), c.failed.ensures.ending)

pub returns-in-Ok-clause-written : goal.returns-in-Ok-clause-written
returns-in-Ok-clause-written g c = λ was. files_as_before (g.H.Hand.serves c.args.hand.now) (g.H.Hand.serves c.append.new.self) c.args.plan.pages.sealed.items _ refl c.append.ensures.serves was

pub returns-in-Err-clause-written : goal.returns-in-Err-clause-written
returns-in-Err-clause-written g c = λ was.
    files_as_before (g.H.Hand.serves c.args.hand.now) (g.H.Hand.serves c.discard.new.self) c.args.plan.pages.sealed.items _ (c.failed.ensures.sealed ∙ c.given_up.ensures) (λ s is. c.discard.ensures.serves s (c.append.ensures.serves s is)) was

pub returns-in-Err-clause-news : goal.returns-in-Err-clause-news
returns-in-Err-clause-news g c = λ p has. absurd (none_has _ p c.failed.ensures.news has)

pub returns-in-Ok-clause-makes : goal.returns-in-Ok-clause-makes
returns-in-Ok-clause-makes g c = (_, Ok c.in-Ok.field-0, inl c.in-Ok.ensures.makes, refl)
