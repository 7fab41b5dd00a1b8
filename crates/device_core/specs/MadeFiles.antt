-- What calls do to files in memory.
use Rattle.std.specs.Prelude.{◌≡◌, ℕ, ◌+◌, [], ◌++◌, List, length, OnOk}
use Rattle.device_core.specs.declared.file.File.{File}
use Rattle.device_core.specs.declared.file.State.TheVariants.{Open, Sealed, Retired, Discarded}
use Rattle.device_core.specs.Made.{Made, creates, appends, seals, discards, reads, retires}
use Rattle.device_core.specs.Files.{IsOpen, IsKept, Becomes}

-- The files before and after a call, by what it answered.
abbrev pub Makes : List File → List File → Made → Type 0
Makes old new (creates answer) = OnOk answer (Becomes old new (length old + 1) Open [])
Makes old new (appends number bytes answer) =
    OnOk answer ((b : List ℕ) → IsOpen old number b → Becomes old new number Open (b ++ bytes))
Makes old new (seals pen answer) =
    OnOk answer ((b : List ℕ) → IsOpen old pen.number b → Becomes old new pen.number Sealed b)
Makes old new (discards pen) = (b : List ℕ) → IsOpen old pen.number b → Becomes old new pen.number Discarded b
Makes old new (reads stamp at bytes answer) = new ≡ old
Makes old new (retires stamp answer) =
    OnOk answer ((b : List ℕ) → IsKept old stamp.number b → Becomes old new stamp.number Retired b)
