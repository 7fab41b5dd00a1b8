-- An outcome that is handed in tells the same.
use Rattle.std.proofs.Common.{◌≡◌, ◌∙◌, ap, sym, subst, List}
use Rattle.std.specs.Prelude.{Result, Ok, Err}
use Rattle.device_core.specs.Device.{Assignment}
use Rattle.apply_core.specs.declared.reply.Reply.{Reply}
use Rattle.page_core.specs.CallPins.{Call}
use Rattle.page_core.specs.Truths.{IsTrueOf}
use Rattle.page_core.specs.PartPins.{PartPin}
use Rattle.page_core.specs.declared.outcome.Outcome.{Outcome}
use Rattle.page_core.specs.Outcomes.{outcome_call, outcome_reply, outcome_news, if_done, TellsSame}
use Rattle.board_core.specs.declared.answer.Finished.{Finished}
use Rattle.office_core.specs.declared.client_seat.Seat.{Seat}
use Rattle.office_core.specs.declared.seat.NotTaken.{NotTaken}
use Rattle.office_core.specs.declared.seat.NotTaken.TheVariants.{Front, Stranger}
use Rattle.office_core.specs.Seats.{ReceivesInPlace}
use Rattle.session_core.specs.Truth.{OutcomeIsTrue}

pub same_as : (o after : Outcome) → after ≡ o → TellsSame o after
same_as o after same = record { call = ap outcome_call same; reply = ap outcome_reply same; news = ap outcome_news same }

-- whatever is answered
pub still_tells : (old : Seat) (o : Outcome) (answer : Result Finished NotTaken) (after : Outcome) (new : Seat) → ReceivesInPlace old o answer after new → TellsSame o after
still_tells old o (Ok f) after new is = is.0
still_tells old o (Err (Front seen found)) after new is = same_as o after is.2
still_tells old o (Err Stranger) after new is = same_as o after is.0

-- and what tells the same as that does too
pub tells_on : (first second third : Outcome) → TellsSame first second → TellsSame second third → TellsSame first third
tells_on first second third is on = record { call = on.call ∙ is.call; reply = on.reply ∙ is.reply; news = on.news ∙ is.news }

-- what tells the same is as true
pub as_true : (a : Assignment) (o after : Outcome) → TellsSame o after → OutcomeIsTrue a o → OutcomeIsTrue a after
as_true a o after same is =
    subst (λ (c : Call). IsTrueOf a c (outcome_reply after) (if_done (outcome_reply after) (outcome_news after))) (sym same.call)
    (subst (λ (r : Reply). IsTrueOf a (outcome_call o) r (if_done r (outcome_news after))) (sym same.reply)
    (subst (λ (news : List PartPin). IsTrueOf a (outcome_call o) (outcome_reply o) (if_done (outcome_reply o) news)) (sym same.news) is))
