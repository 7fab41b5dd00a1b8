use Rattle.std.proofs.Common.{[], subst}
use Rattle.board_core.specs.Board.{Board}
use Rattle.board_core.specs.Free.{IsNeeded, Picks}
use Rattle.board_core.proofs.Freed.{published_are_picked}
use Rattle.desk_core.specs.Kept.{board_of}
use Rattle.desk_core.proofs.roster.Roster.pick.Goals as goal

pub returns : goal.returns
returns c =
    subst (λ (b : Board). Picks (IsNeeded b.pins b.running) [] c.args.free.now.items c.pick.new.free.items) c.self.view_is
    (published_are_picked (board_of c.self.inside) c.self.invariant.sound c.args.free.now.items c.pick.new.free.items c.pick.ensures)
