use Rattle.std.proofs.Common.{replicate, sym, ap, ◌∙◌}
use Rattle.std.specs.Prelude.{map}
use Rattle.value_core.specs.declared.datum.Datum.TheVariants as datum
use Rattle.value_core.specs.Datum.{zero_of}
use Rattle.value_core.proofs.Openings.{map_all}
use Rattle.value_core.proofs.cells.Cells.zeros.Goals as goal

pub returns-in_ok-vec-in-Integer-clause-data : goal.returns-in_ok-vec-in-Integer-clause-data
returns-in_ok-vec-in-Integer-clause-data c =
    ap (map datum.Integer) (c.in_ok-vec-in-Integer.ensures.items_if_clones_equal (λ y e. e)) ∙ map_all datum.Integer c.args.count 0
    ∙ ap (λ e. replicate c.args.count (zero_of e)) (sym c.in-Integer.is)

pub returns-in_ok-vec-in-Text-clause-data : goal.returns-in_ok-vec-in-Text-clause-data
returns-in_ok-vec-in-Text-clause-data c =
    ap (map datum.Text) (c.in_ok-vec-in-Text.ensures.items_if_clones_equal (λ y e. e)) ∙ map_all datum.Text c.args.count c.empty.result
    ∙ ap (λ t. replicate c.args.count (datum.Text t)) c.empty.ensures.empty ∙ ap (λ e. replicate c.args.count (zero_of e)) (sym c.in-Text.is)
