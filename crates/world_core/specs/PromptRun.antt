-- Lines at a prompt over whole texts.
use Rattle.std.specs.Prelude.{◌≡◌, ℕ, List, ◌++◌, take}
use Rattle.std.specs.Str.Lines.{lines}
use Rattle.decl_core.specs.declared.object.Object.{Object}
use Rattle.value_core.specs.Runs.{Runs, Cuts, NoLineFeed}
use Rattle.world_core.specs.Scene.{Scene, IsNew}
use Rattle.world_core.specs.Tries.{Texts, Tries}

-- What is written to lines at a prompt over an object: the answers to all of them.
abbrev pub IsTried : Object → Texts → List ℕ → List ℕ → Type 0
IsTried o texts text written =
    (start : Scene) × IsNew o start × (last : Scene) × Runs (Tries texts) start 1 (lines text) written last

-- a front of the answers to the first lines of a text
abbrev pub IsTriedFront : Object → Texts → List ℕ → List ℕ → Type 0
IsTriedFront o texts text written =
    (start : Scene) × IsNew o start × (whole : List (List ℕ)) × (after : List (List ℕ))
    × (lines text ≡ whole ++ after) × (answers : List ℕ) × (last : Scene)
    × Runs (Tries texts) start 1 whole answers last × (count : ℕ) × (written ≡ take count answers)

-- the answers to each line that has come whole, and to no other; `held` is what has come of the next one
abbrev pub IsTriedSoFar : Object → Texts → List ℕ → List ℕ → Type 0
IsTriedSoFar o texts text written =
    (start : Scene) × IsNew o start × (whole : List (List ℕ)) × (held : List ℕ) × Cuts text whole held
    × NoLineFeed held
    × (last : Scene) × Runs (Tries texts) start 1 whole written last
