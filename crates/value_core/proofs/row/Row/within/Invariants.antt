use Rattle.std.proofs.Common.{◌≡◌, ◌≤◌, take, vec_capacity}
use Rattle.value_core.specs.Limits.{most_text_bytes}
use Rattle.value_core.proofs.row.Row.within.Given as goal

abbrev pub invariant-loop-byte : goal.invariant-loop-byte
invariant-loop-byte l = record {
  written : l.bytes.items ≡ take l.byte-index l.byte-items;
  room : most_text_bytes ≤ vec_capacity l.bytes;
}
