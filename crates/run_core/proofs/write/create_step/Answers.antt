use Rattle.std.proofs.Common.{Ok, Err, refl, ◌∙◌}
use Rattle.run_core.specs.Steps.{creates}
use Rattle.run_core.proofs.Inside.{none_has}
use Rattle.run_core.proofs.Serving.{files_as_before}
use Rattle.run_core.proofs.Stepping.{failed_there, creates_first}
use Rattle.run_core.proofs.write.create_step.Goals as goal

pub returns-in-Ok-clause-steps : goal.returns-in-Ok-clause-steps
returns-in-Ok-clause-steps g c = λ call. creates

pub returns-in-Err-clause-steps : goal.returns-in-Err-clause-steps
returns-in-Err-clause-steps g c = λ call. failed_there call _ _ c.in-Err.fault c.given_up.result.items creates_first c.given_up.ensures c.failed.ensures.place

pub returns-in-Ok-clause-written : goal.returns-in-Ok-clause-written
returns-in-Ok-clause-written g c = λ was. files_as_before (g.H.Hand.serves c.args.hand.now) (g.H.Hand.serves c.create.new.self) c.args.plan.pages.sealed.items _ refl c.create.ensures.serves was

pub returns-in-Err-clause-written : goal.returns-in-Err-clause-written
returns-in-Err-clause-written g c = λ was. files_as_before (g.H.Hand.serves c.args.hand.now) (g.H.Hand.serves c.create.new.self) c.args.plan.pages.sealed.items _ (c.failed.ensures.sealed ∙ c.given_up.ensures) c.create.ensures.serves was

pub returns-in-Err-clause-news : goal.returns-in-Err-clause-news
returns-in-Err-clause-news g c = λ p has. absurd (none_has _ p c.failed.ensures.news has)

pub returns-in-Ok-clause-makes : goal.returns-in-Ok-clause-makes
returns-in-Ok-clause-makes g c = (Ok c.in-Ok.pen, c.in-Ok.ensures.makes, refl)

pub returns-in-Err-clause-makes : goal.returns-in-Err-clause-makes
returns-in-Err-clause-makes g c = (Err c.in-Err.fault, c.in-Err.ensures.makes, c.failed.ensures.ending)
