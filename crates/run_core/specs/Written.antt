-- The parts that a body changes.
use Rattle.std.specs.Prelude.{ℕ, ◌+◌, ◌≤◌, List, [], ◌∷◌, map}
use Rattle.decl_core.specs.Form.{Statements}
use Rattle.decl_core.specs.Touched.{Writes}
use Rattle.run_core.specs.declared.judge.Change.{Change}

-- the numbers of these parts rise from this one on, so that each comes once at most, and each part is one that
-- the statements write
abbrev pub WritesInOrder : Statements → ℕ → List ℕ → Type 0
WritesInOrder statements from [] = Unit {0}
WritesInOrder statements from (part ∷ rest) =
    (from ≤ part) × Writes statements part × WritesInOrder statements (part + 1) rest

-- the parts of changes, in order
abbrev pub parts_changed : List Change → List ℕ
parts_changed changes = map (λ change. change.part) changes
