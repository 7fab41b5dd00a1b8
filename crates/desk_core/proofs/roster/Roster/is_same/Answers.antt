use Rattle.std.proofs.Common.{◌≡◌, ◌∙◌, sym, ap, subst}
use Rattle.std.proofs.lemmas.Option.{same_Some}
use Rattle.page_core.specs.ObjectCalls.{AcceptedCall}
use Rattle.board_core.specs.Answers.{HasName}
use Rattle.desk_core.proofs.roster.Roster.is_same.Goals as goal

pub returns-in-Some : goal.returns-in-Some
returns-in-Some c = (
  λ yes_it_is. let is = c.is_same_call.ensures.0 yes_it_is in (c.in-Some.call.now, c.in-Some.ensures.some, is.0, is.1),
  λ x.
      let same : x.0 ≡ c.in-Some.call.now = same_Some x.0 c.in-Some.call.now (sym x.1 ∙ c.in-Some.ensures.some) in
      c.is_same_call.ensures.1 (subst (λ (call : AcceptedCall). HasName c.args.name.now call.operation) same x.2, sym (ap (λ (call : AcceptedCall). call.arguments) same) ∙ x.3),
)
