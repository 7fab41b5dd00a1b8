use Rattle.std.specs.Vec.Iter.{into_iter_items, into_iter_len}
use Rattle.check_core.proofs.HeldReports.{Told}
use Rattle.check_core.proofs.hold_report.report_objects.Given as goal

abbrev pub invariant-loop-object : goal.invariant-loop-object
invariant-loop-object l = Told l.fn.objects.items (into_iter_items l.object-iterator) (into_iter_len l.object-iterator) l.fn.rules l.left l.refused l.text.items
