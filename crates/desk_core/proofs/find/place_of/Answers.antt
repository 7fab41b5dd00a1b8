use Rattle.std.proofs.Common.{arith, ◌≡◌, ◌<◌, Some, sym, ap, ◌∙◌, length}
use Rattle.std.specs.Prelude.{slice_get}
use Rattle.std.proofs.lemmas.Option.{slice_get-get_or}
use Rattle.decl_core.specs.declared.object.Operation.{Operation}
use Rattle.board_core.specs.Board.{bodies}
use Rattle.board_core.specs.Answers.{HasName}
use Rattle.queue_core.proofs.Fronts.{Every-more}
use Rattle.board_core.proofs.Made.{body_at}
use Rattle.page_core.proofs.Lists.{true_false}
use Rattle.desk_core.proofs.find.place_of.Goals as goal

pub returns-then-has_name-clause-some : goal.returns-then-has_name-clause-some
returns-then-has_name-clause-some c =
    let within : c.loop-place.place < length c.args.object.now.operations.items = omega (arith, c.loop-place-test.true, c.len-place-end.ensures, c.args.object.now.operations.ok.0) in
    let there : slice_get (bodies c.args.object.now) c.loop-place.place ≡ Some c.deref.result.now =
    body_at c.args.object.now.operations.items c.loop-place.place c.index.result.now (slice_get-get_or c.args.object.now.operations.items c.loop-place.place c.index.result.now within ∙ ap Some (sym c.index.ensures))
    ∙ ap Some (sym c.deref.ensures) in
    (c.deref.result.now, record { there = there; has = c.has_name.ensures.0 c.if-has_name.true; first = c.loop-place.invariant })

pub loop-place-preserved : goal.loop-place-preserved
loop-place-preserved c =
    let within : c.loop-place.place < length c.args.object.now.operations.items = omega (arith, c.loop-place-test.true, c.len-place-end.ensures, c.args.object.now.operations.ok.0) in
    let there : slice_get (bodies c.args.object.now) c.loop-place.place ≡ Some c.deref.result.now =
    body_at c.args.object.now.operations.items c.loop-place.place c.index.result.now (slice_get-get_or c.args.object.now.operations.items c.loop-place.place c.index.result.now within ∙ ap Some (sym c.index.ensures))
    ∙ ap Some (sym c.deref.ensures) in
    Every-more (λ (x : Operation). HasName c.args.name.now x → ⊥) (bodies c.args.object.now) c.loop-place.place c.deref.result.now c.loop-place.invariant there
    (λ has. true_false c.has_name.result (c.has_name.ensures.1 has) c.if-has_name.false)
