use Rattle.std.proofs.Common.{◌≡◌, drop}
use Rattle.decl_core.specs.View.{all_of}
use Rattle.decl_core.specs.Footprint.{named_in_all}
use Rattle.decl_core.proofs.footprint.+reading.Given as goal

abbrev pub invariant-named_by_block-loop-s : goal.invariant-named_by_block-loop-s
invariant-named_by_block-loop-s l = named_in_all (all_of (drop l.s-index l.all)) l.named ≡ named_in_all (all_of l.all) l.so_far
