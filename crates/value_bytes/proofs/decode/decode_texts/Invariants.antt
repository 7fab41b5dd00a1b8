use Rattle.std.proofs.Common.{◌≡◌, ◌++◌, length, map}
use Rattle.std.specs.Prelude.{All}
use Rattle.std.specs.List.{flat_map}
use Rattle.value_core.specs.declared.datum.Datum.TheVariants as datum
use Rattle.value_core.specs.declared.kind.Elem.TheVariants as elem
use Rattle.value_core.specs.Datum.{IsElementIn}
use Rattle.value_bytes.specs.Spelling.{spelled_datum_in}
use Rattle.value_bytes.proofs.decode.decode_texts.Given as goal

abbrev pub invariant-loop-place : goal.invariant-loop-place
invariant-loop-place l = record {
  each : All (IsElementIn l.format elem.Text) (map datum.Text l.all.items);
  many : length (map datum.Text l.all.items) ≡ l.place;
  parts : l.bytes ≡ flat_map (spelled_datum_in l.format) (map datum.Text l.all.items) ++ l.rest;
}
