use Rattle.std.proofs.Common.{◌≡◌, ◌++◌, sym, ap, ◌∙◌}
use Rattle.std.specs.List.{flat_map}
use Rattle.std.specs.FinMap as map
use Rattle.value_core.specs.declared.datum.Datum.TheVariants as datum
use Rattle.value_core.specs.Rows.{as_data, rows_map}
use Rattle.value_bytes.specs.Spelling.{spelled_row}
use Rattle.value_core.proofs.Outcomes.{on_ok}
use Rattle.value_core.proofs.Tables.{in_order}
use Rattle.value_bytes.proofs.rows.put_rows.Goals as goal

pub returns-in-Integers : goal.returns-in-Integers
returns-in-Integers c =
    let all : as_data datum.Integer c.rows.result.now ≡ map.entries (rows_map c.args.rows.now) =
    ap (as_data datum.Integer) c.rows.ensures.rows ∙ sym (in_order datum.Integer c.in-Integers.all c.rows.ensures.rise) ∙ ap (λ r. map.entries (rows_map r)) (sym c.in-Integers.is) in
    on_ok _ _ c.put_integers.result (λ is. is ∙ ap (λ rows. c.args.out.now.items ++ flat_map spelled_row rows) all) c.put_integers.ensures

pub returns-in-Texts : goal.returns-in-Texts
returns-in-Texts c =
    let all : as_data datum.Text c.rows-in-Texts.result.now ≡ map.entries (rows_map c.args.rows.now) =
    ap (as_data datum.Text) c.rows-in-Texts.ensures.rows ∙ sym (in_order datum.Text c.in-Texts.all c.rows-in-Texts.ensures.rise) ∙ ap (λ r. map.entries (rows_map r)) (sym c.in-Texts.is) in
    on_ok _ _ c.put_texts.result (λ is. is ∙ ap (λ rows. c.args.out.now.items ++ flat_map spelled_row rows) all) c.put_texts.ensures
