use Rattle.std.proofs.Common.{Some, sym, ◌∙◌, ap}
use Rattle.std.proofs.lemmas.Option.{slice_get-get_or}
use Rattle.world_core.specs.declared.slot.Slot.{Slot}
use Rattle.world_core.proofs.stage.place_of.Goals as goal

pub returns-then-runs-k-clause-some : goal.returns-then-runs-k-clause-some
returns-then-runs-k-clause-some c = (
  c.index-runs-k.result,
  slice_get-get_or c.args.runs.now c.loop-k.k c.index-runs-k.result c.loop-k-test.true ∙ ap Some (sym c.index-runs-k.is),
  ap (λ (s : Slot). s.number) c.index-runs-k.is ∙ c.if-runs-k.true,
)
