use Rattle.std.proofs.Common.{ap, ◌∙◌}
use Rattle.std.specs.FinMap as map
use Rattle.value_core.specs.declared.datum.Datum.TheVariants as datum
use Rattle.value_core.specs.TextOrder.{text_cmp}
use Rattle.value_core.specs.Rows.{as_data}
use Rattle.value_core.proofs.Placing.{erased_row}
use Rattle.value_core.proofs.TableRows.{rows_removed}
use Rattle.value_core.proofs.rows.Rows.remove.Goals as goal

pub returns-in-Integers-clause-data : goal.returns-in-Integers-clause-data
returns-in-Integers-clause-data c =
    rw c.in-Integers.is (ap (λ es. map.from_entries {R = text_cmp} (as_data datum.Integer es)) c.remove.ensures.rows ∙ erased_row datum.Integer c.in-Integers.all c.args.key.now c.remove.ensures.rise)

pub returns-in-Integers-clause-rows : goal.returns-in-Integers-clause-rows
returns-in-Integers-clause-rows c = λ e.
    rw c.in-Integers.is (rows_removed datum.Integer e c.in-Integers.all c.remove.new.self c.args.key.now c.remove.ensures.rise c.remove.ensures.still c.remove.ensures.rows
    (ap (λ es. map.from_entries {R = text_cmp} (as_data datum.Integer es)) c.remove.ensures.rows ∙ erased_row datum.Integer c.in-Integers.all c.args.key.now c.remove.ensures.rise))

pub returns-in-Texts-clause-data : goal.returns-in-Texts-clause-data
returns-in-Texts-clause-data c =
    rw c.in-Texts.is (ap (λ es. map.from_entries {R = text_cmp} (as_data datum.Text es)) c.remove-in-Texts.ensures.rows ∙ erased_row datum.Text c.in-Texts.all c.args.key.now c.remove-in-Texts.ensures.rise)

pub returns-in-Texts-clause-rows : goal.returns-in-Texts-clause-rows
returns-in-Texts-clause-rows c = λ e.
    rw c.in-Texts.is (rows_removed datum.Text e c.in-Texts.all c.remove-in-Texts.new.self c.args.key.now c.remove-in-Texts.ensures.rise c.remove-in-Texts.ensures.still c.remove-in-Texts.ensures.rows
    (ap (λ es. map.from_entries {R = text_cmp} (as_data datum.Text es)) c.remove-in-Texts.ensures.rows ∙ erased_row datum.Text c.in-Texts.all c.args.key.now c.remove-in-Texts.ensures.rise))
