use Rattle.std.specs.Map.{values_of}
use Rattle.check_core.proofs.Said.{Told}
use Rattle.check_core.proofs.stuck_report.report_objects.Given as goal

abbrev pub invariant-loop-object : goal.invariant-loop-object
invariant-loop-object l = Told (values_of l.fn.all.entries) l.object-iterator l.refused l.lost l.text.items
