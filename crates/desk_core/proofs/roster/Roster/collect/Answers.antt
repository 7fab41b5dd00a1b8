use Rattle.std.proofs.Common.{◌≡◌, ◌∙◌, sym, ap, subst, arith, length, Some, true}
use Rattle.std.specs.Prelude.{slice_get}
use Rattle.std.proofs.Math.ListN.{length-set}
use Rattle.std.proofs.lemmas.Option.{slice_get_within}
use Rattle.page_core.specs.ObjectCalls.{RunningCall}
use Rattle.board_core.specs.Board.{Board, taken_at}
use Rattle.desk_core.specs.Kept.{board_of}
use Rattle.board_core.specs.Sound.{IsSound}
use Rattle.board_core.proofs.Sound.{sound-taken}
use Rattle.desk_core.proofs.Starting.{has_pins, read_again}
use Rattle.desk_core.proofs.Tables.{taken_is}
use Rattle.desk_core.proofs.roster.Roster.collect.Goals as goal

pub ticket_at-requires : goal.ticket_at-requires
ticket_at-requires c = record {
  place = slice_get_within c.self.inside.running.items c.args.place c.requires.0 (subst (λ (x : Board). slice_get x.running c.args.place ≡ Some c.requires.0) (sym c.self.view_is) c.requires.1);
  few = omega (arith, c.self.invariant.sound.pinned.each, c.self.inside.accepted.few);
  pins = λ r is. (read_again (board_of c.self.inside) c.args.place r c.self.invariant.sound is, has_pins (board_of c.self.inside) c.args.place r c.self.invariant.sound is);
}

pub invariant_of-self : goal.invariant_of-self
invariant_of-self c =
    let b : Board = board_of c.self.inside in
    let r : RunningCall = c.requires.0 in
    let is : slice_get b.running c.args.place ≡ Some r = subst (λ (x : Board). slice_get x.running c.args.place ≡ Some r) (sym c.self.view_is) c.requires.1 in
    let made = taken_is b c.args.place r _ (c.ticket_at.ensures.items r is) in
    let l = ap length (c.ticket_at.ensures.items r is) ∙ length-set b.running c.args.place (record r { taken = true }) in
    record {
      marks = c.self.invariant.marks;
      places = c.self.invariant.places;
      index = c.self.invariant.index;
      sound = subst IsSound (sym made) (sound-taken b c.args.place r c.self.invariant.sound is);
      stands = c.self.invariant.stands;
      room = record {
        marks = omega (arith, l, c.self.invariant.room.marks);
        history = omega (arith, l, c.self.invariant.room.history);
        running = omega (arith, l, c.self.invariant.room.running, c.ticket_at.ensures.room);
      };
    }

pub returns-clause-board : goal.returns-clause-board
returns-clause-board c = λ r is0.
    let b : Board = board_of c.self.inside in
    let is : slice_get b.running c.args.place ≡ Some r = subst (λ (x : Board). slice_get x.running c.args.place ≡ Some r) (sym c.self.view_is) is0 in
    taken_is b c.args.place r _ (c.ticket_at.ensures.items r is) ∙ ap (λ x. taken_at x c.args.place r) c.self.view_is
