use Rattle.std.proofs.Common.{◌≡◌, drop}
use Rattle.decl_core.specs.View.{all_of}
use Rattle.decl_core.specs.Footprint.{changed_by_all}
use Rattle.decl_core.proofs.footprint.+writing.Given as goal

abbrev pub invariant-changed_by_block-loop-s : goal.invariant-changed_by_block-loop-s
invariant-changed_by_block-loop-s l = changed_by_all (all_of (drop l.s-index l.all)) l.changed ≡ changed_by_all (all_of l.all) l.so_far
