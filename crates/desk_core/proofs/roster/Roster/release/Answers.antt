use Rattle.std.proofs.Common.{◌∙◌, ◌==◌, not, sym, ap, subst, arith, length}
use Rattle.page_core.specs.ObjectCalls.{WaitingCall}
use Rattle.board_core.specs.Board.{Board, released}
use Rattle.desk_core.specs.Kept.{board_of}
use Rattle.board_core.specs.Sound.{IsSound}
use Rattle.board_core.proofs.Sound.{sound-released}
use Rattle.page_core.proofs.Lists.{filter_le}
use Rattle.desk_core.proofs.Tables.{released_is}
use Rattle.desk_core.proofs.roster.Roster.release.Goals as goal

pub invariant_of-self : goal.invariant_of-self
invariant_of-self c =
    let b : Board = board_of c.self.inside in
    let made = released_is b c.args.session _ c.leave_of.ensures in
    let w = ap length c.leave_of.ensures in
    let fewer = filter_le (λ (x : WaitingCall). not (x.call.session == c.args.session)) c.self.inside.waiting in
    record {
      marks = c.self.invariant.marks;
      places = c.self.invariant.places;
      index = c.self.invariant.index;
      sound = subst IsSound (sym made) (sound-released b c.args.session c.self.invariant.sound);
      stands = c.self.invariant.stands;
      room = record {
        marks = omega (arith, w, fewer, c.self.invariant.room.marks);
        history = omega (arith, w, fewer, c.self.invariant.room.history);
        running = omega (arith, w, fewer, c.self.invariant.room.running);
      };
    }

pub returns : goal.returns
returns c = released_is (board_of c.self.inside) c.args.session _ c.leave_of.ensures ∙ ap (λ b. released b c.args.session) c.self.view_is
