-- How the program ends that was to keep objects.
use Rattle.std.specs.Prelude.{ℕ}
use Rattle.pathserve.specs.declared.ending.KeepEnd.{KeepEnd}
use Rattle.pathserve.specs.declared.ending.KeepEnd.TheVariants as keep

-- `keep`: 0 where each object was kept to the end, 1 where a line says why one is not
abbrev pub keep_status : KeepEnd → ℕ
keep_status (keep.Whole ended) = 0
keep_status keep.Refused = 1
