use Rattle.std.proofs.Common.{Some, sym, ap, ◌∙◌}
use Rattle.std.specs.Prelude.{option_map, option_copied}
use Rattle.std.specs.FinMap as map
use Rattle.value_core.specs.declared.datum.Datum.TheVariants as datum
use Rattle.value_core.specs.Rows.{rows_map}
use Rattle.value_core.proofs.Tables.{get_at}
use Rattle.value_core.proofs.rows.Rows.get.Goals as goal

pub returns-in-Some : goal.returns-in-Some
returns-in-Some c =
    let key = c.args.key.now in
    ap (option_map datum.Integer) (sym (ap option_copied c.in-Some.is) ∙ c.get.ensures) ∙ sym (get_at datum.Integer c.in-Integers.all key) ∙ ap (λ r. map.get (rows_map r) key) (sym c.in-Integers.is)

pub returns-in-None : goal.returns-in-None
returns-in-None c =
    let key = c.args.key.now in
    ap (option_map datum.Integer) (sym (ap option_copied c.in-None.is) ∙ c.get.ensures) ∙ sym (get_at datum.Integer c.in-Integers.all key) ∙ ap (λ r. map.get (rows_map r) key) (sym c.in-Integers.is)

pub returns-in-Some-get : goal.returns-in-Some-get
returns-in-Some-get c =
    let key = c.args.key.now in
    ap (λ t. Some (datum.Text t)) c.text.ensures ∙ ap (option_map datum.Text) (sym (ap option_copied c.in-Some-get.is) ∙ c.get-in-Texts.ensures) ∙ sym (get_at datum.Text c.in-Texts.all key) ∙ ap (λ r. map.get (rows_map r) key) (sym c.in-Texts.is)

pub returns-in-None-get : goal.returns-in-None-get
returns-in-None-get c =
    let key = c.args.key.now in
    ap (option_map datum.Text) (sym (ap option_copied c.in-None-get.is) ∙ c.get-in-Texts.ensures) ∙ sym (get_at datum.Text c.in-Texts.all key) ∙ ap (λ r. map.get (rows_map r) key) (sym c.in-Texts.is)
