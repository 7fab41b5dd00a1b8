use Rattle.std.proofs.Common.{refl, sym, ap, subst, ◌∙◌}
use Rattle.board_core.specs.Board.{marked}
use Rattle.desk_core.specs.Kept.{board_of}
use Rattle.board_core.specs.Sound.{IsSound}
use Rattle.board_core.proofs.Sound.{sound-marked}
use Rattle.desk_core.proofs.Tables.{marked_is}
use Rattle.desk_core.proofs.roster.Roster.mark.Goals as goal

pub invariant_of-self : goal.invariant_of-self
invariant_of-self c = record {
  marks = c.self.invariant.marks;
  places = c.self.invariant.places;
  index = c.self.invariant.index;
  sound = subst IsSound (sym (marked_is (board_of c.self.inside) c.args.session _ refl)) (sound-marked (board_of c.self.inside) c.args.session c.self.invariant.sound);
  stands = c.self.invariant.stands;
  room = record { marks = c.self.invariant.room.marks; history = c.self.invariant.room.history; running = c.self.invariant.room.running };
}

pub returns : goal.returns
returns c = marked_is (board_of c.self.inside) c.args.session _ refl ∙ ap (λ b. marked b c.args.session) c.self.view_is
