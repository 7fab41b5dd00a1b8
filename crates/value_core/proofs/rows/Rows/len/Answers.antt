use Rattle.std.proofs.Common.{sym, ap, ◌∙◌}
use Rattle.std.specs.FinMap as map
use Rattle.value_core.specs.declared.datum.Datum.TheVariants as datum
use Rattle.value_core.specs.Rows.{rows_map}
use Rattle.value_core.proofs.Tables.{count_at}
use Rattle.value_core.proofs.rows.Rows.len.Goals as goal

pub returns-in-Integers : goal.returns-in-Integers
returns-in-Integers c = c.len.ensures.len ∙ count_at datum.Integer c.in-Integers.all c.len.ensures.rise ∙ ap (λ r. map.len (rows_map r)) (sym c.in-Integers.is)

pub returns-in-Texts : goal.returns-in-Texts
returns-in-Texts c = c.len-in-Texts.ensures.len ∙ count_at datum.Text c.in-Texts.all c.len-in-Texts.ensures.rise ∙ ap (λ r. map.len (rows_map r)) (sym c.in-Texts.is)
