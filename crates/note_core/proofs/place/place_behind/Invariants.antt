use Rattle.std.proofs.Common.{◌≡◌, ◌≤◌, ◌+◌, length}
use Rattle.note_core.specs.Places.{column_after, line_after}
use Rattle.note_core.proofs.place.place_behind.Given as goal

abbrev pub invariant-bytes : goal.invariant-bytes
invariant-bytes l = record {
  lines : line_after l.line l.rest ≡ line_after 1 l.before;
  columns : column_after l.column l.rest ≡ column_after 1 l.before;
  line_few : l.line + length l.rest ≤ length l.before + 1;
  column_few : l.column + length l.rest ≤ length l.before + 1;
}

abbrev pub decreases-bytes : goal.decreases-bytes
decreases-bytes l = length l.rest
