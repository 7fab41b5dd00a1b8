-- Laws of runs over files in memory.
use Rattle.std.specs.Prelude.{◌≡◌, ℕ, List, Some}
use Rattle.device_core.specs.declared.file.File.{File}
use Rattle.device_core.specs.Files.{IsOpen}
use Rattle.run_core.specs.declared.run.Run.{Run}
use Rattle.run_core.specs.Runs.{run_pen, PenHolds}

-- files hold what a run appended, where its file is as it was
abbrev pub PensStay : Type 0
PensStay =
    (old new : List File) (run : Run) → ((n : ℕ) (b : List ℕ) → run_pen run ≡ Some n → IsOpen old n b →
    IsOpen new n b) → PenHolds (λ n b. IsOpen old n b) run → PenHolds (λ n b. IsOpen new n b) run

-- where files hold what a run appended, the file that it writes is open
abbrev pub PensAreOpen : Type 0
PensAreOpen =
    (files : List File) (run : Run) (n : ℕ) → run_pen run ≡ Some n → PenHolds (λ n b. IsOpen files n b) run →
    (b : List ℕ) × IsOpen files n b
