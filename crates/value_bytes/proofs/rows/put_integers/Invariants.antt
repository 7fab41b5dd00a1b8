use Rattle.std.proofs.Common.{◌≡◌, ◌++◌, take}
use Rattle.std.specs.List.{flat_map}
use Rattle.value_core.specs.declared.datum.Datum.TheVariants as datum
use Rattle.value_core.specs.Rows.{as_data}
use Rattle.value_bytes.specs.Spelling.{spelled_row}
use Rattle.value_bytes.proofs.rows.put_integers.Given as goal

abbrev pub invariant-loop-place : goal.invariant-loop-place
invariant-loop-place l = l.out.items ≡ l.fn.out.items ++ flat_map spelled_row (as_data datum.Integer (take l.place l.all))
