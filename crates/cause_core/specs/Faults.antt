-- The line that tells what could not be done with a file.
use Rattle.std.specs.Prelude.{ℕ, List, ◌++◌, codes}
use Rattle.cause_core.specs.Causes.{cause_text}
use Rattle.cause_core.specs.declared.fault.FileFault.{FileFault}
use Rattle.cause_core.specs.declared.fault.FileTask.{FileTask}
use Rattle.cause_core.specs.declared.fault.FileTask.TheVariants as tasks

abbrev pub task_words : FileTask → List ℕ
task_words tasks.Open = codes ": this file cannot be opened"
task_words tasks.Make = codes ": this file cannot be made"
task_words tasks.Read = codes ": this file cannot be read"
task_words tasks.Write = codes ": this file cannot be written"
task_words tasks.Store = codes ": this file cannot be stored"
task_words tasks.Rename = codes ": this file cannot be renamed"
task_words tasks.Remove = codes ": this file cannot be removed"
task_words tasks.StoreFolder = codes ": this folder cannot be stored"

-- the line
abbrev pub fault_text : List ℕ → FileFault → List ℕ
fault_text path fault = (path ++ task_words fault.task) ++ (cause_text (codes ": ") fault.cause ++ codes "\n")
