use Rattle.std.proofs.Common.{◌≡◌, ◌++◌}
use Rattle.std.specs.Prelude.{All}
use Rattle.std.specs.List.{flat_map}
use Rattle.std.specs.FinMap as map
use Rattle.value_core.specs.Contents.{IsRowIn}
use Rattle.value_core.specs.Rows.{rows_sort, rows_map}
use Rattle.value_bytes.specs.Spelling.{spelled_row_in}
use Rattle.value_bytes.proofs.Rising.{EndsWith}
use Rattle.value_bytes.proofs.decode.decode_rows.Given as goal

abbrev pub invariant-loop-place : goal.invariant-loop-place
invariant-loop-place l = record {
  sort : rows_sort l.rows ≡ l.sort;
  each : All (IsRowIn l.format l.sort) (map.entries (rows_map l.rows));
  many : map.len (rows_map l.rows) ≡ l.place;
  last : EndsWith (map.entries (rows_map l.rows)) l.last;
  parts : l.bytes ≡ flat_map (spelled_row_in l.format) (map.entries (rows_map l.rows)) ++ l.rest;
}
