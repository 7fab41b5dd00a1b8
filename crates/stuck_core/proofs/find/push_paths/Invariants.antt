use Rattle.std.proofs.Common.{◌≡◌, ◌+◌, ◌++◌, ◌≤◌, drop, length}
use Rattle.path_count.specs.Object.{all_slots}
use Rattle.stuck_core.specs.Reasons.{all_whys}
use Rattle.stuck_core.specs.ReasonViews.{whys_of}
use Rattle.stuck_core.proofs.find.push_paths.Given as goal

abbrev pub invariant-loop-path : goal.invariant-loop-path
invariant-loop-path l = record {
  told : whys_of l.found.items ++ all_whys (drop l.path-index l.paths) l.number l.at l.op l.words ≡ whys_of l.fn.found.items ++ all_whys l.paths 1 0 l.op l.words;
  size : l.at + all_slots (drop l.path-index l.paths) ≡ all_slots l.paths;
  within : l.at ≤ length l.words;
  number : l.number ≡ 1 + l.path-index;
}
