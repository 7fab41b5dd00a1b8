use Rattle.std.proofs.Common.{◌≡◌, ◌∙◌, Some, sym, ap, subst, arith, refl, length, slice_get}
use Rattle.decl_core.specs.HoldMap.{holds_of}
use Rattle.board_core.specs.Board.{Board}
use Rattle.board_core.specs.Sound.{IsNumbered, event_number}
use Rattle.page_core.proofs.Lists.{Every-at}
use Rattle.world_core.specs.HoldDoes.{IsNoted}
use Rattle.world_core.proofs.Noting.{noted_none, noted_more, noted_all, none_there}
use Rattle.world_core.proofs.noted.catch_up.Goals as goal

pub events-init : goal.events-init
events-init c = (omega arith, noted_none (holds_of c.args.rules.now) c.args.world.now.board.calls c.args.world.now.board.trace c.args.from c.args.from c.args.holds.now refl)

pub note-requires : goal.note-requires
note-requires c =
    Every-at (λ e. IsNumbered c.desk-desk.result.now.calls (event_number e)) c.desk-desk.result.now.trace c.events.place c.in-Some.event c.history.ensures.sound.counted.numbered
    (ap (λ (b : Board). slice_get b.trace c.events.place) (sym c.trace-trace.ensures) ∙ sym c.get.ensures ∙ c.in-Some.is)

pub unreachable-requires : goal.unreachable-requires
unreachable-requires c = none_there c.trace-trace.result.desk.now.trace c.events.place (omega (arith, c.events-test.true, c.len-place-end.ensures)) (sym c.get.ensures ∙ c.in-None.is)

pub events-preserved : goal.events-preserved
events-preserved c =
    let desk : c.trace-trace.result.desk.now ≡ c.args.world.now.board = c.trace-trace.ensures ∙ c.desk-desk.ensures.desk in
    let there : slice_get c.args.world.now.board.trace c.events.place ≡ Some c.in-Some.event = ap (λ (b : Board). slice_get b.trace c.events.place) (sym desk) ∙ sym c.get.ensures ∙ c.in-Some.is in
    let noted = subst (λ (b : Board). IsNoted (holds_of c.args.rules.now) b.calls c.in-Some.event c.events.holds c.note.new.holds) c.desk-desk.ensures.desk c.in_ok-note-in-Some.ensures in (
      omega (arith, c.events.invariant.0),
      noted_more (holds_of c.args.rules.now) c.args.world.now.board.calls c.args.world.now.board.trace c.args.from c.events.place c.in-Some.event c.args.holds.now c.events.holds c.note.new.holds c.events.invariant.0 there c.events.invariant.1 noted,
    )

pub returns : goal.returns
returns c =
    let desk : c.trace-trace.result.desk.now ≡ c.args.world.now.board = c.trace-trace.ensures ∙ c.desk-desk.ensures.desk in
    noted_all (holds_of c.args.rules.now) c.args.world.now.board.calls c.args.world.now.board.trace c.args.from c.events.place c.args.holds.now c.events.holds
    (omega (arith, c.events-test.false, c.len-place-end.ensures, ap (λ (b : Board). length b.trace) desk)) c.events.invariant.1
