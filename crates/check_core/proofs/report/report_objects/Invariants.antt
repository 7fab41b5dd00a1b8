use Rattle.std.specs.Map.{values_of}
use Rattle.check_core.proofs.Reports.{Reported}
use Rattle.check_core.proofs.report.report_objects.Given as goal

abbrev pub invariant-loop-object : goal.invariant-loop-object
invariant-loop-object l = Reported (values_of l.fn.all.entries) l.object-iterator l.refused l.text.items
