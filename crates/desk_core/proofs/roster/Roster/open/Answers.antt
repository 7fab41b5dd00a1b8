use Rattle.std.proofs.Common.{rules, arith, ap, length, subst, sym, map, []}
use Rattle.decl_core.specs.ObjectMap.{object_of}
use Rattle.std.specs.Arc.{arc_value}
use Rattle.path_count.specs.Stands.{StandsFor}
use Rattle.board_core.specs.Board.{past_of}
use Rattle.board_core.specs.Sound.{IsSound}
use Rattle.board_core.proofs.Sound.{sound-opened}
use Rattle.board_core.specs.Index.{AreIndexed}
use Rattle.board_core.proofs.Indexing.{indexed_opened}
use Rattle.desk_core.proofs.Marking.{events_are, no_marks}
use Rattle.desk_core.proofs.Places.{no_places}
use Rattle.desk_core.proofs.Tables.{opened_is}
use Rattle.desk_core.proofs.roster.Roster.open.Goals as goal

pub invariant_of-result : goal.invariant_of-result
invariant_of-result c =
    let made = opened_is c.args.accepted c.args.pins (ap (map (λ x. arc_value x)) c.new-3.ensures.items) (events_are c.new-6.ensures.items c.new-5.ensures.items) c.new-6.ensures.items c.in_ok-waiting.ensures c.new-7.ensures.items (search rules) in
    let stands : StandsFor c.in_ok-counters.counters (length c.args.accepted.operations.items) (object_of c.args.accepted).paths [] = subst (λ o. StandsFor c.in_ok-counters.counters (length o.operations.items) (object_of o).paths []) c.object.ensures.same c.in_ok-counters.ensures in
    let t = ap length c.new-5.ensures.items in
    let h = ap length c.new-6.ensures.items in
    let w = ap length c.in_ok-waiting.ensures in
    let r = ap length c.new-7.ensures.items in
    record {
      marks = no_marks _ _ c.new-5.ensures.items;
      places = no_places _ _ _ (ap length c.new-3.ensures.items) c.new-4.ensures.items;
      index = subst (λ cs. AreIndexed cs c.in_ok-index.index) (sym (ap (map (λ x. arc_value x)) c.new-3.ensures.items)) (indexed_opened c.in_ok-index.index c.in_ok-index.ensures);
      sound = subst IsSound (sym made) (sound-opened c.args.accepted c.args.pins c.object.ensures.exclusive c.requires.each stands.satisfied);
      stands = subst (StandsFor c.in_ok-counters.counters (length c.args.accepted.operations.items) (object_of c.args.accepted).paths) (sym (ap past_of made)) stands;
      room = record { marks = omega (arith, t, w, r); history = omega (arith, h, w, r); running = omega (arith, w, r) };
    }

pub returns : goal.returns
returns c =
    opened_is c.args.accepted c.args.pins (ap (map (λ x. arc_value x)) c.new-3.ensures.items) (events_are c.new-6.ensures.items c.new-5.ensures.items) c.new-6.ensures.items c.in_ok-waiting.ensures c.new-7.ensures.items (search rules)
