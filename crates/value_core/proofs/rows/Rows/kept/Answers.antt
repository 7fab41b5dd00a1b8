use Rattle.std.proofs.Common.{Some, sym, ap, ◌∙◌}
use Rattle.std.specs.Prelude.{option_map, option_copied}
use Rattle.std.specs.FinMap as map
use Rattle.value_core.specs.declared.datum.Datum.TheVariants as datum
use Rattle.value_core.specs.Rows.{rows_map}
use Rattle.value_core.proofs.Tables.{get_at}
use Rattle.value_core.proofs.rows.Rows.kept.Goals as goal

pub returns-in-Some-clause-data : goal.returns-in-Some-clause-data
returns-in-Some-clause-data c =
    let key = c.args.key.now in
    ap (option_map datum.Integer) (sym (ap option_copied c.in-Some.is) ∙ c.get.ensures) ∙ sym (get_at datum.Integer c.in-Integers.all key) ∙ ap (λ r. map.get (rows_map r) key) (sym c.in-Integers.is)

pub returns-in-None-clause-data : goal.returns-in-None-clause-data
returns-in-None-clause-data c =
    let key = c.args.key.now in
    ap (option_map datum.Integer) (sym (ap option_copied c.in-None.is) ∙ c.get.ensures) ∙ sym (get_at datum.Integer c.in-Integers.all key) ∙ ap (λ r. map.get (rows_map r) key) (sym c.in-Integers.is)

pub returns-in_ok-copy-in-Some-get-clause-data : goal.returns-in_ok-copy-in-Some-get-clause-data
returns-in_ok-copy-in-Some-get-clause-data c =
    let key = c.args.key.now in
    ap (λ t. Some (datum.Text t)) c.in_ok-copy-in-Some-get.ensures ∙ ap (option_map datum.Text) (sym (ap option_copied c.in-Some-get.is) ∙ c.get-in-Texts.ensures) ∙ sym (get_at datum.Text c.in-Texts.all key) ∙ ap (λ r. map.get (rows_map r) key) (sym c.in-Texts.is)

pub returns-in-None-get-clause-data : goal.returns-in-None-get-clause-data
returns-in-None-get-clause-data c =
    let key = c.args.key.now in
    ap (option_map datum.Text) (sym (ap option_copied c.in-None-get.is) ∙ c.get-in-Texts.ensures) ∙ sym (get_at datum.Text c.in-Texts.all key) ∙ ap (λ r. map.get (rows_map r) key) (sym c.in-Texts.is)
