-- The first line of a script.
use Rattle.std.specs.Prelude.{◌≡◌, ℕ, List, [], ◌∷◌, codes}
use Rattle.std.specs.Str.Lines.{lines}
use Rattle.path_tree.specs.Identifier.{IsIdentifier}
use Rattle.word_core.specs.Words.{bare, AreWords}

-- a line `object NAME`
abbrev pub IsObjectLine : List ℕ → List ℕ → Type 0
IsObjectLine line name = AreWords line (bare (codes "object") ∷ bare name ∷ []) × IsIdentifier name

-- the first line of a text is `object NAME`
abbrev pub IsFirstObject : List ℕ → List ℕ → Type 0
IsFirstObject bytes name =
    (line : List ℕ) × (more : List (List ℕ)) × (lines bytes ≡ line ∷ more) × IsObjectLine line name
