use Rattle.std.proofs.Common.{◌≡◌, ◌++◌, length}
use Rattle.std.specs.Prelude.{All}
use Rattle.std.specs.List.{flat_map}
use Rattle.value_core.specs.Datum.{IsElementIn}
use Rattle.value_core.specs.Queue.{queue_sort, queue_data}
use Rattle.value_bytes.specs.Spelling.{spelled_datum_in}
use Rattle.value_bytes.proofs.decode.decode_queue.Given as goal

abbrev pub invariant-loop-place : goal.invariant-loop-place
invariant-loop-place l = record {
  sort : queue_sort l.queue ≡ l.sort;
  each : All (IsElementIn l.format l.sort) (queue_data l.queue);
  many : length (queue_data l.queue) ≡ l.place;
  parts : l.bytes ≡ flat_map (spelled_datum_in l.format) (queue_data l.queue) ++ l.rest;
}
