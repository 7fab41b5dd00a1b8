use Rattle.std.proofs.Common.{◌≤◌, length}
use Rattle.path_count.specs.Words.{words}
use Rattle.path_count.proofs.Naming.{Named}
use Rattle.path_count.proofs.paths.operations.read_names.Given as goal

abbrev pub invariant-words : goal.invariant-words
invariant-words l = record {
  few : length l.names.items ≤ 32;
  named : Named l.line l.rest l.names.items;
}

abbrev pub decreases-words : goal.decreases-words
decreases-words l = length (words l.rest)
