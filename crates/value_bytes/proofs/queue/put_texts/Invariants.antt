use Rattle.std.proofs.Common.{◌≡◌, ◌++◌, map, take}
use Rattle.std.specs.List.{flat_map}
use Rattle.value_core.specs.declared.datum.Datum.TheVariants as datum
use Rattle.value_bytes.specs.Spelling.{spelled_datum}
use Rattle.value_bytes.proofs.queue.put_texts.Given as goal

abbrev pub invariant-loop-place : goal.invariant-loop-place
invariant-loop-place l = l.out.items ≡ l.fn.out.items ++ flat_map spelled_datum (map datum.Text (take l.place l.all.items))
