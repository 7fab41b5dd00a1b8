use Rattle.std.proofs.Common.{Some, sym, ap, ◌∙◌}
use Rattle.std.proofs.lemmas.Option.{slice_get-get_or}
use Rattle.desk_core.proofs.find.place_of_call.Goals as goal

pub returns-then-is_of-clause-some : goal.returns-then-is_of-clause-some
returns-then-is_of-clause-some c = (
  c.index-running-place.result,
  slice_get-get_or c.args.running.now c.loop-place.place c.index-running-place.result c.loop-place-test.true ∙ ap Some (sym c.index-running-place.is),
  c.is_of.ensures.0 c.if-is_of.true,
)
