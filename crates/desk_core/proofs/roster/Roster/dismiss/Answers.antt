use Rattle.std.proofs.Common.{◌∙◌, ◌==◌, not, sym, ap, subst, arith, length}
use Rattle.page_core.specs.ObjectCalls.{WaitingCall}
use Rattle.board_core.specs.Board.{Board, dismissed}
use Rattle.desk_core.specs.Kept.{board_of}
use Rattle.board_core.specs.Sound.{IsSound}
use Rattle.board_core.proofs.Sound.{sound-dismissed}
use Rattle.page_core.proofs.Lists.{filter_le}
use Rattle.desk_core.proofs.Tables.{dismissed_is}
use Rattle.desk_core.proofs.roster.Roster.dismiss.Goals as goal

pub invariant_of-self : goal.invariant_of-self
invariant_of-self c =
    let b : Board = board_of c.self.inside in
    let made = dismissed_is b c.args.number _ c.leave.ensures in
    let w = ap length c.leave.ensures in
    let fewer = filter_le (λ (x : WaitingCall). not (x.number == c.args.number)) c.self.inside.waiting in
    record {
      marks = c.self.invariant.marks;
      places = c.self.invariant.places;
      index = c.self.invariant.index;
      sound = subst IsSound (sym made) (sound-dismissed b c.args.number c.self.invariant.sound);
      stands = c.self.invariant.stands;
      room = record {
        marks = omega (arith, w, fewer, c.self.invariant.room.marks);
        history = omega (arith, w, fewer, c.self.invariant.room.history);
        running = omega (arith, w, fewer, c.self.invariant.room.running);
      };
    }

pub returns : goal.returns
returns c = dismissed_is (board_of c.self.inside) c.args.number _ c.leave.ensures ∙ ap (λ b. dismissed b c.args.number) c.self.view_is
