-- What the changes of a body were made of, taken back.
use Rattle.std.specs.Prelude.{ℕ, List, [], ◌∷◌, slice_set}
use Rattle.value_core.specs.Contents.{Contents}
use Rattle.value_core.specs.declared.undo.Undo.{Undo}
use Rattle.value_core.specs.Undo.{back}
use Rattle.decl_core.specs.Meaning.{part_at}

-- one change of a part taken back
abbrev pub step_back : ℕ × Undo → List Contents → List Contents
step_back s parts = slice_set parts s.0 (back s.1 (part_at parts s.0))

-- all changes taken back, the last one first
abbrev pub taken_back : List (ℕ × Undo) → List Contents → List Contents
taken_back [] parts = parts
taken_back (s ∷ rest) parts = step_back s (taken_back rest parts)
