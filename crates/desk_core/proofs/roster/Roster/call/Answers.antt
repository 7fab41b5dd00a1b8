use Rattle.std.proofs.Common.{◌≡◌, ◌∙◌, Some, ap, subst, map}
use Rattle.std.specs.Prelude.{IfSome}
use Rattle.std.specs.Arc.{arc_value}
use Rattle.board_core.specs.Board.{Board, call_at}
use Rattle.desk_core.proofs.roster.Roster.call.Goals as goal

pub returns-clause-some : goal.returns-clause-some
returns-clause-some c =
    subst (λ calls. IfSome c.call_of.result (λ x. call_at calls c.args.number ≡ Some x.now)) (ap (map (λ x. arc_value x)) c.deref.ensures.value ∙ ap (λ (b : Board). b.calls) c.self.view_is) c.call_of.ensures.some
