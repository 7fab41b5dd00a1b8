use Rattle.std.proofs.Common.{Ok, Err, inl, inr, refl, List, [], ◌∷◌, length, sym, ap, ◌∙◌, arith, length-append}
use Rattle.page_core.specs.PartPins.{PartPin, pin_at}
use Rattle.run_core.proofs.Inside.{none_has, still_has}
use Rattle.run_core.proofs.Pens.{some_at}
use Rattle.run_core.proofs.Serving.{files_and_one, files_as_before, only_device}
use Rattle.run_core.proofs.Stepping.{failed_there, seals_first, seal_on}
use Rattle.run_core.proofs.Writing.{IsWithOne, written_more}
use Rattle.run_core.proofs.write.seal_step.Goals as goal

pub returns-in-Ok-clause-found : goal.returns-in-Ok-clause-found
returns-in-Ok-clause-found g c = λ holds a agrees call is.
    let pages = c.args.plan.pages in
    let w = some_at pages.writes.items (length pages.sealed.items) c.args.plan.left in
    let shown = ((c.in-Ok.ensures.agrees w.0.bytes (holds w.0 w.1) a).0 agrees).1 in
    let one : IsWithOne pages c.with.result w.0 c.in-Ok.stamp = record {
      next = w.1;
      counts = c.with.ensures.counts;
      stamps = c.with.ensures.stamps w.0 w.1;
      writes = c.with.ensures.writes;
      gone = c.with.ensures.gone;
      sealed = c.with.ensures.sealed;
    } in
    c.go_on.ensures.found a call (written_more a call c.args.plan.reply pages c.with.result w.0 c.in-Ok.stamp one shown is)

pub returns-in-Ok-clause-steps : goal.returns-in-Ok-clause-steps
returns-in-Ok-clause-steps g c = λ call.
    seal_on call c.args.plan.pages.writes.items c.with.result.writes.items c.args.plan.pages.sealed.items c.with.result.sealed.items c.in-Ok.stamp c.args.plan.reply _ c.with.ensures.writes c.with.ensures.sealed c.args.plan.left c.go_on.ensures.more c.go_on.ensures.done

pub returns-in-Ok-clause-news : goal.returns-in-Ok-clause-news
returns-in-Ok-clause-news g c = λ p has none.
    still_has c.args.plan.pages.counts c.with.result.counts c.args.plan.pages.stamps.items c.with.result.stamps.items p c.with.ensures.counts
    (λ gone. has (ap (λ (l : List PartPin). pin_at l p) c.go_on.ensures.news ∙ gone)) none

pub returns-in-Ok-clause-written : goal.returns-in-Ok-clause-written
returns-in-Ok-clause-written g c = λ was.
    files_and_one (g.H.Hand.serves c.args.hand.now) (g.H.Hand.serves c.seal.new.self) c.args.plan.pages.sealed.items _ c.in-Ok.stamp (c.go_on.ensures.sealed ∙ c.with.ensures.sealed) c.seal.ensures.serves c.in-Ok.ensures.served was

pub returns-in-Ok-clause-falls : goal.returns-in-Ok-clause-falls
returns-in-Ok-clause-falls g c = omega (arith, c.go_on.ensures.less, ap length c.with.ensures.writes, ap length c.with.ensures.sealed, length-append c.args.plan.pages.sealed.items (c.in-Ok.stamp ∷ []), c.args.plan.left)

pub returns-in-Err-clause-steps : goal.returns-in-Err-clause-steps
returns-in-Err-clause-steps g c = λ call. failed_there call _ _ c.in-Err.fault c.given_up.result.items seals_first c.given_up.ensures c.failed.ensures.place

pub returns-in-Err-clause-in_order : goal.returns-in-Err-clause-in_order
returns-in-Err-clause-in_order g c = λ works holds is.
    let pages = c.args.plan.pages in
    let w = some_at pages.writes.items (length pages.sealed.items) c.args.plan.left in
    c.in-Err.ensures.in_order works w.0.bytes (holds w.0 w.1) (only_device c.in-Err.fault (sym c.failed.ensures.ending ∙ is))

pub returns-in-Err-clause-written : goal.returns-in-Err-clause-written
returns-in-Err-clause-written g c = λ was.
    files_as_before (g.H.Hand.serves c.args.hand.now) (g.H.Hand.serves c.discard.new.self) c.args.plan.pages.sealed.items _ (c.failed.ensures.sealed ∙ c.given_up.ensures) (λ s is. c.discard.ensures.serves s (c.seal.ensures.serves s is)) was

pub returns-in-Err-clause-news : goal.returns-in-Err-clause-news
returns-in-Err-clause-news g c = λ p has. absurd (none_has _ p c.failed.ensures.news has)

pub returns-in-Ok-clause-makes : goal.returns-in-Ok-clause-makes
returns-in-Ok-clause-makes g c = (Ok c.in-Ok.stamp, inl c.in-Ok.ensures.makes, c.go_on.ensures.sealed ∙ c.with.ensures.sealed)

pub returns-in-Err-clause-makes : goal.returns-in-Err-clause-makes
returns-in-Err-clause-makes g c = (Err (c.in-Err.pen, c.in-Err.fault), inr (refl, (c.seal.new.self, c.in-Err.pen, c.in-Err.ensures.number, c.in-Err.ensures.makes, c.discard.ensures.makes)), (c.failed.ensures.ending, c.failed.ensures.sealed ∙ c.given_up.ensures))
