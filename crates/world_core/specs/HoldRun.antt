-- Scripts over whole texts, of an object with holds.
use Rattle.std.specs.Prelude.{◌≡◌, ℕ, ◌+◌, Bool, List, ◌∷◌, ◌++◌, length, take}
use Rattle.std.specs.Str.Lines.{lines}
use Rattle.decl_core.specs.declared.object.Object.{Object}
use Rattle.decl_core.specs.HoldForm.{HoldForm}
use Rattle.value_core.specs.Runs.{Runs, Stops, Cuts, NoLineFeed}
use Rattle.value_core.specs.Ends.{Answered}
use Rattle.world_core.specs.declared.script.ScriptEnd.{ScriptEnd}
use Rattle.world_core.specs.declared.script.ScriptEnd.TheVariants.{Whole, BadLine}
use Rattle.world_core.specs.HoldWrites.{HeldTold, IsHeldBegun, HeldWrites}

-- What a script over an object writes. Whole: the answers to all its lines. BadLine k: the answers up to that of line
-- k, which ends the script.
abbrev pub IsHeldScript : Object → List HoldForm → List ℕ → ScriptEnd → List ℕ → Type 0
IsHeldScript o holds text Whole written =
    (start : HeldTold) × IsHeldBegun o holds start × (told : HeldTold) × Runs HeldWrites start 1 (lines text) written told
IsHeldScript o holds text (BadLine k) written =
    (start : HeldTold) × IsHeldBegun o holds start × (before : List (List ℕ)) × (line : List ℕ) × (after : List (List ℕ))
    × (told : HeldTold) × (k ≡ length before + 1)
    × (lines text ≡ before ++ line ∷ after) × Stops HeldWrites start 1 before line written told

-- a front of the answers to the first lines of a text
abbrev pub IsHeldFront : Object → List HoldForm → List ℕ → List ℕ → Type 0
IsHeldFront o holds text written =
    (start : HeldTold) × IsHeldBegun o holds start × (whole : List (List ℕ)) × (after : List (List ℕ)) × (lines text ≡ whole ++ after)
    × (goes : Bool) × (answers : List ℕ) × (told : HeldTold) × Answered HeldWrites start whole goes answers told
    × (count : ℕ) × (written ≡ take count answers)

-- the answers to each line that has come whole, and to no other; `held` is what has come of the next one
abbrev pub IsHeldScriptSoFar : Object → List HoldForm → List ℕ → List ℕ → Type 0
IsHeldScriptSoFar o holds text written =
    (start : HeldTold) × IsHeldBegun o holds start × (whole : List (List ℕ)) × (held : List ℕ) × Cuts text whole held
    × NoLineFeed held
    × (told : HeldTold) × Runs HeldWrites start 1 whole written told
