use Rattle.std.proofs.Common.{◌∙◌, ap, subst}
use Rattle.board_core.specs.Board.{Board, marked, released, Admits}
use Rattle.board_core.specs.Started.{Settles}
use Rattle.board_core.proofs.Admission.{rests_after, left_history, settled}
use Rattle.desk_core.proofs.desk.Desk.disconnect.Goals as goal

pub invariant_of-self : goal.invariant_of-self
invariant_of-self c = rests_after _ _ c.admit.ensures

pub returns-clause-left : goal.returns-clause-left
returns-clause-left c = λ above below.
    subst (λ (b : Board). Settles (marked (released b c.args.session) c.args.session) c.admit.new.self) c.self.view_is
    (settled _ _ (subst (λ b. Admits b c.admit.new.self) (c.mark.ensures ∙ ap (λ b. marked b c.args.session) c.release.ensures) c.admit.ensures))

pub returns-clause-history : goal.returns-clause-history
returns-clause-history c =
    (left_history c.self.inside.roster c.admit.new.self c.args.session (subst (λ b. Admits b c.admit.new.self) (c.mark.ensures ∙ ap (λ b. marked b c.args.session) c.release.ensures) c.admit.ensures)).0 ∙ ap (λ (b : Board). b.history) c.self.view_is

pub returns-clause-pins : goal.returns-clause-pins
returns-clause-pins c =
    (left_history c.self.inside.roster c.admit.new.self c.args.session (subst (λ b. Admits b c.admit.new.self) (c.mark.ensures ∙ ap (λ b. marked b c.args.session) c.release.ensures) c.admit.ensures)).1 ∙ ap (λ (b : Board). b.pins) c.self.view_is
