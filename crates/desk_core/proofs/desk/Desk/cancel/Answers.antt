use Rattle.std.proofs.Common.{◌≡◌, ◌∙◌, true, refl, sym, ap, subst}
use Rattle.board_core.specs.Board.{Board, call_at, dismissed, Admits}
use Rattle.board_core.specs.Answers.{waits_in, runs_in}
use Rattle.board_core.specs.Started.{Settles}
use Rattle.board_core.proofs.Admission.{rests_after, dismissed_history, settled}
use Rattle.desk_core.proofs.desk.Desk.cancel.Goals as goal

pub invariant_of-self : goal.invariant_of-self
invariant_of-self c = rests_after _ _ c.admit.ensures

pub returns-then-waits-clause-board : goal.returns-then-waits-clause-board
returns-then-waits-clause-board c =
    let waits : waits_in c.self.inside.roster c.args.number ≡ true = sym c.waits.ensures ∙ c.if-waits.true in
    subst (λ (b : Board). (waits_in b c.args.number ≡ true) × Settles (dismissed b c.args.number) c.admit.new.self) c.self.view_is
    (waits, settled _ _ (subst (λ b. Admits b c.admit.new.self) c.dismiss.ensures c.admit.ensures))

pub returns-then-waits-clause-history : goal.returns-then-waits-clause-history
returns-then-waits-clause-history c =
    (dismissed_history c.self.inside.roster c.admit.new.self c.args.number (subst (λ b. Admits b c.admit.new.self) c.dismiss.ensures c.admit.ensures)).0 ∙ ap (λ (b : Board). b.history) c.self.view_is

pub returns-then-waits-clause-pins : goal.returns-then-waits-clause-pins
returns-then-waits-clause-pins c =
    (dismissed_history c.self.inside.roster c.admit.new.self c.args.number (subst (λ b. Admits b c.admit.new.self) c.dismiss.ensures c.admit.ensures)).1 ∙ ap (λ (b : Board). b.pins) c.self.view_is

pub returns-in-Some-clause-board : goal.returns-in-Some-clause-board
returns-in-Some-clause-board c = (
  ap (λ (b : Board). waits_in b c.args.number) (sym c.self.view_is) ∙ sym c.waits.ensures ∙ c.if-waits.false,
  ap (λ (b : Board). runs_in b c.args.number) (sym c.self.view_is) ∙ sym c.runs.ensures ∙ c.if-runs.false,
  (c.in-Some.field-0.now, ap (λ (b : Board). call_at b.calls c.args.number) (sym c.self.view_is) ∙ c.in-Some.ensures.some),
  refl,
)
