use Rattle.std.proofs.Common.{◌∙◌, ap, sym, subst}
use Rattle.board_core.specs.Board.{Board, Rests}
use Rattle.board_core.proofs.Resumed.{resumed_rests, resumed_history}
use Rattle.desk_core.proofs.desk.Desk.resume.Goals as goal

pub invariant_of-self : goal.invariant_of-self
invariant_of-self c = subst Rests (sym c.unmark.ensures) (resumed_rests c.self.inside.roster c.args.session c.self.invariant)

pub returns-clause-history : goal.returns-clause-history
returns-clause-history c = ap (λ (b : Board). b.history) c.unmark.ensures ∙ (resumed_history c.self.inside.roster c.args.session).0 ∙ ap (λ (b : Board). b.history) c.self.view_is

pub returns-clause-pins : goal.returns-clause-pins
returns-clause-pins c = ap (λ (b : Board). b.pins) c.unmark.ensures ∙ (resumed_history c.self.inside.roster c.args.session).1 ∙ ap (λ (b : Board). b.pins) c.self.view_is
