use Rattle.std.proofs.Common.{ap, ◌∙◌}
use Rattle.std.specs.FinMap as map
use Rattle.value_core.specs.declared.datum.Datum.TheVariants as datum
use Rattle.value_core.specs.TextOrder.{text_cmp}
use Rattle.value_core.specs.Rows.{as_data}
use Rattle.value_core.proofs.Outcomes.{on_ok}
use Rattle.value_core.proofs.Placing.{stored_row}
use Rattle.value_core.proofs.rows.Rows.insert.Goals as goal

pub returns-in-Integer-clause-ok : goal.returns-in-Integer-clause-ok
returns-in-Integer-clause-ok c =
    rw (c.in-Integers.is, c.in-Integer.is)
    (on_ok _ _ c.insert.result (λ is. ap (λ es. map.from_entries {R = text_cmp} (as_data datum.Integer es)) is ∙ stored_row datum.Integer c.in-Integers.all c.args.key c.in-Integer.number c.insert.ensures.rise) c.insert.ensures.ok)

pub returns-in_ok-row-in-Text-datum-clause-ok : goal.returns-in_ok-row-in-Text-datum-clause-ok
returns-in_ok-row-in-Text-datum-clause-ok c =
    let all = c.in-Texts.all in
    let row = c.in_ok-row-in-Text-datum.row in
    rw (c.in-Texts.is, c.in-Text-datum.is)
    (on_ok _ _ c.insert-in-Text-datum.result (λ is.
    ap (λ es. map.from_entries {R = text_cmp} (as_data datum.Text es)) is ∙ stored_row datum.Text all c.args.key row c.insert-in-Text-datum.ensures.rise
    ∙ ap (λ t. map.insert (map.from_entries {R = text_cmp} (as_data datum.Text all)) c.args.key (datum.Text t)) c.in_ok-row-in-Text-datum.ensures) c.insert-in-Text-datum.ensures.ok)
