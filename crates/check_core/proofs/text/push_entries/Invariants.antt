use Rattle.std.proofs.Common.{◌≡◌, ◌++◌, length}
use Rattle.decl_core.specs.ObjectMap.{object_of}
use Rattle.check_core.specs.Report.{pair_lines}
use Rattle.check_core.proofs.text.push_entries.Given as goal

abbrev pub invariant-entries : goal.invariant-entries
invariant-entries l = l.out.items ++ pair_lines (object_of l.object) l.rest ≡ l.fn.out.items ++ pair_lines (object_of l.object) l.entries

abbrev pub decreases-entries : goal.decreases-entries
decreases-entries l = length l.rest
