use Rattle.std.proofs.Common.{◌∙◌, refl, sym, ap, subst}
use Rattle.page_core.specs.CallPins.{call_of}
use Rattle.board_core.specs.Board.{Board, call_at, taken_at}
use Rattle.board_core.specs.Answers.{waits_in, runs_in, ended_in, IsLeft, NoneIsLeft}
use Rattle.board_core.proofs.Admission.{taken_rests, taken_history}
use Rattle.desk_core.proofs.desk.Desk.collect.Goals as goal

pub invariant_of-self : goal.invariant_of-self
invariant_of-self c =
    let left = c.in-Some.ensures.some in
    taken_rests c.self.inside.roster c.collect.new.self c.in-Some.place left.0 (c.collect.ensures.board left.0 left.1.there) c.self.invariant

pub returns-in-Some-collect-clause-board : goal.returns-in-Some-collect-clause-board
returns-in-Some-collect-clause-board c =
    let left = c.in-Some.ensures.some in
    let r = left.0 in (
      c.in-Some.place,
      r,
      subst (λ (b : Board). IsLeft b c.args.number c.in-Some.place r) c.self.view_is left.1,
      (c.in-Some-collect.ensures.some r left.1.there).1 ∙ ap (λ m. call_of m r.call.operation r.call.arguments r.pins) left.1.number,
      c.collect.ensures.board r left.1.there ∙ ap (λ b. taken_at b c.in-Some.place r) c.self.view_is,
    )

pub returns-in-Some-collect-clause-history : goal.returns-in-Some-collect-clause-history
returns-in-Some-collect-clause-history c =
    let left = c.in-Some.ensures.some in
    ap (λ (b : Board). b.history) (c.collect.ensures.board left.0 left.1.there) ∙ (taken_history c.self.inside.roster c.in-Some.place left.0).0 ∙ ap (λ (b : Board). b.history) c.self.view_is

pub returns-in-Some-collect-clause-pins : goal.returns-in-Some-collect-clause-pins
returns-in-Some-collect-clause-pins c =
    let left = c.in-Some.ensures.some in
    ap (λ (b : Board). b.pins) (c.collect.ensures.board left.0 left.1.there) ∙ (taken_history c.self.inside.roster c.in-Some.place left.0).1 ∙ ap (λ (b : Board). b.pins) c.self.view_is

pub returns-in-Some-call-clause-board : goal.returns-in-Some-call-clause-board
returns-in-Some-call-clause-board c = (
  subst (λ (b : Board). NoneIsLeft b c.args.number) c.self.view_is c.in_default.ensures.none,
  ap (λ (b : Board). waits_in b c.args.number) (sym c.self.view_is) ∙ sym c.waits.ensures ∙ c.if-waits.false,
  ap (λ (b : Board). runs_in b c.args.number) (sym c.self.view_is) ∙ sym c.runs.ensures ∙ c.if-runs.false,
  ap (λ (b : Board). ended_in b c.args.number) (sym c.self.view_is) ∙ sym c.is_ended.ensures ∙ c.if-is_ended.false,
  (c.in-Some-call.field-0.now, ap (λ (b : Board). call_at b.calls c.args.number) (sym c.self.view_is) ∙ c.in-Some-call.ensures.some),
  refl,
)
