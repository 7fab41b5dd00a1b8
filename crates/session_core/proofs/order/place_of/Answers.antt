use Rattle.std.proofs.Common.{Some, sym, ap, ◌∙◌}
use Rattle.std.proofs.lemmas.Option.{slice_get-get_or}
use Rattle.session_core.proofs.order.place_of.Goals as goal

pub returns-then-has_name-clause-some : goal.returns-then-has_name-clause-some
returns-then-has_name-clause-some c = (
  c.index-offices-at.result,
  slice_get-get_or c.args.offices.now c.loop-at.at c.index-offices-at.result c.loop-at-test.true ∙ ap Some (sym c.index-offices-at.is),
  c.has_name.ensures.0 c.if-has_name.true,
)
