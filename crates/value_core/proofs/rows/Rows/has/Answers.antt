use Rattle.std.proofs.Common.{sym, ap, ◌∙◌}
use Rattle.std.specs.FinMap as map
use Rattle.value_core.specs.declared.datum.Datum.TheVariants as datum
use Rattle.value_core.specs.Rows.{rows_map}
use Rattle.value_core.proofs.Tables.{has_at}
use Rattle.value_core.proofs.rows.Rows.has.Goals as goal

pub returns-in-Integers : goal.returns-in-Integers
returns-in-Integers c =
    c.has.ensures ∙ sym (has_at datum.Integer c.in-Integers.all c.args.key.now) ∙ ap (λ r. map.contains_key (rows_map r) c.args.key.now) (sym c.in-Integers.is)

pub returns-in-Texts : goal.returns-in-Texts
returns-in-Texts c =
    c.has-in-Texts.ensures ∙ sym (has_at datum.Text c.in-Texts.all c.args.key.now) ∙ ap (λ r. map.contains_key (rows_map r) c.args.key.now) (sym c.in-Texts.is)
