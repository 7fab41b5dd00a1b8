use Rattle.std.proofs.Common.{◌≢◌, ℕ, ◌<◌, List, slice_index_or}
use Rattle.std.specs.Str.{str_to_ascii_lowercase}
use Rattle.path_count.proofs.paths.operations.operation_of.Given as goal

abbrev pub invariant-loop-op : goal.invariant-loop-op
invariant-loop-op l = (k : ℕ) (d : List ℕ) → k < l.op → slice_index_or l.names k d ≢ str_to_ascii_lowercase l.word
