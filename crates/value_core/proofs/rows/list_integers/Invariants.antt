use Rattle.std.proofs.Common.{◌≡◌, take}
use Rattle.value_core.specs.declared.datum.Datum.TheVariants as datum
use Rattle.value_core.specs.Rows.{as_data}
use Rattle.value_core.proofs.rows.list_integers.Given as goal

abbrev pub invariant-loop-place : goal.invariant-loop-place
invariant-loop-place l = l.list.items ≡ as_data datum.Integer (take l.place l.all)
