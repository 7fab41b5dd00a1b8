-- The call of a run.
use Rattle.std.specs.Arc.{arc_value}
use Rattle.run_core.specs.declared.task.Task.{Task}
use Rattle.page_core.specs.CallPins.{Call, call_of}

abbrev pub task_call : Task → Call
task_call t = call_of t.number (arc_value t.operation) t.args.items t.pins
