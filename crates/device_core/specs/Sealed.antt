-- The small files that were sealed last.
use Rattle.std.specs.Prelude.{◌≡◌, List, None, All, length}
use Rattle.device_core.specs.declared.sealed.SealedFile.{SealedFile}

-- room for eight files, none of which is kept
abbrev pub HasRoom : List SealedFile → Type 0
HasRoom files = (length files ≡ 8) × All (λ kept. kept.number ≡ None) files
