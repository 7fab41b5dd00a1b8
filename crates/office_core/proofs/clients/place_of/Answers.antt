use Rattle.std.proofs.Common.{Some, sym, ap, ◌∙◌}
use Rattle.std.proofs.lemmas.Option.{slice_get-get_or}
use Rattle.office_core.proofs.clients.place_of.Goals as goal

pub returns-then-has_name-clause-some : goal.returns-then-has_name-clause-some
returns-then-has_name-clause-some c = (
  c.index-clients-place.result,
  slice_get-get_or c.args.clients.now c.loop-place.place c.index-clients-place.result c.loop-place-test.true ∙ ap Some (sym c.index-clients-place.is),
  c.has_name.ensures.0 c.if-has_name.true,
)
