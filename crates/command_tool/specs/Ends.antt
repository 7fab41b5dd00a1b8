-- How the program ends that has served.
use Rattle.std.specs.Prelude.{ℕ, Result, Ok, Err}
use Rattle.value_core.specs.declared.machine.LinesFault.{LinesFault}
use Rattle.answer_core.specs.Status.{paths_failure}
use Rattle.answer_core.specs.declared.failure.ToolFailure.{ToolFailure}
use Rattle.answer_core.specs.declared.failure.ToolFailure.TheVariants.{ReadFault}
use Rattle.serve_core.specs.declared.serve.ServeEnd.{ServeEnd}
use Rattle.serve_core.specs.declared.serve.ServeEnd.TheVariants.{Whole, Refused, Unopened}

-- `serve`: 0 where each object was served, closed, saved and traced, 1 where a line says what was refused, damaged or
-- mixed; a read fault where nothing could be opened
abbrev pub serve_status : ServeEnd → Result ℕ ToolFailure
serve_status Whole = Ok 0
serve_status Refused = Ok 1
serve_status Unopened = Err ReadFault

-- the same, or the failure for the fault of a server
abbrev pub status_of_end : Result ServeEnd LinesFault → Result ℕ ToolFailure
status_of_end (Ok end) = serve_status end
status_of_end (Err fault) = Err (paths_failure fault)
