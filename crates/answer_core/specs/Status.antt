-- What the program ends with: its exit status, and what it tells where it has no answer.
use Rattle.std.specs.Prelude.{◌≡◌, ◌⊎◌, ◌==◌, ℕ, Bool, ⊤, if◌then◌else◌, List, Option, Some, None, Result, Ok, Err, codes}
use Rattle.std.specs.IoError.{error_kind}
use Rattle.std.specs.declared.io.Error.{Error as IoError}
use Rattle.std.specs.declared.io.ErrorKind.{ErrorKind as IoKind}
use Rattle.clap.specs.Values.{kind_of}
use Rattle.clap.specs.declared.error.Error.{Error as UsageError}
use Rattle.clap.specs.declared.error.kind.ErrorKind.TheVariants as kinds
use Rattle.answer_core.specs.declared.failure.ToolFailure.{ToolFailure}
use Rattle.answer_core.specs.declared.failure.ToolFailure.TheVariants as failures
use Rattle.value_core.specs.declared.machine.LinesFault.{LinesFault}
use Rattle.value_core.specs.declared.machine.LinesFault.TheVariants as faults
use Rattle.value_core.specs.declared.machine.LinesEnd.{LinesEnd}
use Rattle.value_core.specs.declared.machine.LinesEnd.TheVariants as ends
use Rattle.check_core.specs.declared.report.CheckFault.{CheckFault}
use Rattle.check_core.specs.declared.report.CheckFault.TheVariants as check_faults
use Rattle.check_core.specs.declared.report.CheckEnd.{CheckEnd}
use Rattle.check_core.specs.declared.report.CheckEnd.TheVariants as check_ends

-- `paths`: 0 where each line was answered, 1 where one ended the run
abbrev pub paths_status : LinesEnd → ℕ
paths_status ends.Whole = 0
paths_status (ends.Stopped line) = 1

-- `check`: 0 where no object was refused, 1 where one was, and of a source that is no file of objects
abbrev pub check_status : CheckEnd → ℕ
check_status (check_ends.Counted objects refused) = if refused == 0 then 0 else 1
check_status check_ends.Faulty = 1

-- `check --stuck`: 1 also where an operation is lost
abbrev pub stuck_status : CheckEnd → Bool → ℕ
stuck_status end lost = if lost then 1 else check_status end

-- a failure: 2 usage, 3 a read or write fault, 4 memory
abbrev pub status_of : ToolFailure → ℕ
status_of (failures.Usage error) = 2
status_of failures.ReadFault = 3
status_of failures.WriteFault = 3
status_of failures.Memory = 4

-- the exit status of a run: the one that it gave, or that of its failure
abbrev pub exit_status_of : Result ℕ ToolFailure → ℕ
exit_status_of (Ok status) = status
exit_status_of (Err failure) = status_of failure

-- what standard error gets; the text of a wrong command line is not known
abbrev pub failure_text : ToolFailure → Option (List ℕ)
failure_text (failures.Usage error) = None
failure_text failures.ReadFault = Some (codes "read fault\n")
failure_text failures.WriteFault = Some (codes "write fault\n")
failure_text failures.Memory = Some (codes "out of memory\n")

-- a failure that a command may meet, whose command line was right
abbrev pub IsFault : ToolFailure → Type 0
IsFault (failures.Usage error) = ⊥
IsFault failures.ReadFault = ⊤
IsFault failures.WriteFault = ⊤
IsFault failures.Memory = ⊤

-- words that ask for help, or for the version
abbrev pub IsShown : UsageError → Type 0
IsShown error = (kind_of error ≡ kinds.DisplayHelp) ⊎ (kind_of error ≡ kinds.DisplayVersion)

-- what words end with that ask for no command: with status 0 where they ask to be shown something, unless it cannot be
-- written; else as usage, but for a want of memory
pub record IsWordsEnd (error : UsageError) (ended : Result ℕ ToolFailure) : Type 0 where
  pub shown : IsShown error → (ended ≡ Ok 0) ⊎ (ended ≡ Err failures.WriteFault)
  pub memory : kind_of error ≡ kinds.OutOfMemory → ended ≡ Err failures.Memory
  pub mistake : (IsShown error → ⊥) → (kind_of error ≡ kinds.OutOfMemory → ⊥) → ended ≡ Err (failures.Usage error)

-- a reader that failed is told as such, but for a want of memory
abbrev pub IsUnread : IoError → ToolFailure → Type 0
IsUnread error failure =
    (error_kind error ≡ IoKind.OutOfMemory → failure ≡ failures.Memory)
    × ((error_kind error ≡ IoKind.OutOfMemory → ⊥) → failure ≡ failures.ReadFault)
    × ((failure ≡ failures.ReadFault) ⊎ (failure ≡ failures.Memory))

-- a fault of the paths engine, as the program tells it
abbrev pub paths_failure : LinesFault → ToolFailure
paths_failure faults.ReadFault = failures.ReadFault
paths_failure faults.WriteFault = failures.WriteFault
paths_failure faults.Memory = failures.Memory

-- a fault of the engine of `check`, as the program tells it
abbrev pub check_failure : CheckFault → ToolFailure
check_failure check_faults.WriteFault = failures.WriteFault
check_failure check_faults.Memory = failures.Memory
