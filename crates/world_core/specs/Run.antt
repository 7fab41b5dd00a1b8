-- Scripts over whole texts.
use Rattle.std.specs.Prelude.{◌≡◌, ℕ, ◌+◌, Bool, List, ◌∷◌, ◌++◌, length, take}
use Rattle.std.specs.Str.Lines.{lines}
use Rattle.decl_core.specs.declared.object.Object.{Object}
use Rattle.value_core.specs.Runs.{Runs, Stops, Cuts, NoLineFeed}
use Rattle.value_core.specs.Ends.{Answered}
use Rattle.value_core.specs.declared.machine.LinesEnd.{LinesEnd}
use Rattle.value_core.specs.declared.machine.LinesEnd.TheVariants as ends
use Rattle.world_core.specs.declared.script.ScriptEnd.{ScriptEnd}
use Rattle.world_core.specs.declared.script.ScriptEnd.TheVariants.{Whole, BadLine}
use Rattle.world_core.specs.Writes.{Told, IsBegun, Writes}

-- a script ends where its lines end
abbrev pub end_of : LinesEnd → ScriptEnd
end_of ends.Whole = Whole
end_of (ends.Stopped k) = BadLine k

-- What a script over an object writes. Whole: the answers to all its lines. BadLine k: the answers up to that of line
-- k, which ends the script.
abbrev pub IsScript : Object → List ℕ → ScriptEnd → List ℕ → Type 0
IsScript o text Whole written =
    (start : Told) × IsBegun o start × (told : Told) × Runs Writes start 1 (lines text) written told
IsScript o text (BadLine k) written =
    (start : Told) × IsBegun o start × (before : List (List ℕ)) × (line : List ℕ) × (after : List (List ℕ))
    × (told : Told) × (k ≡ length before + 1)
    × (lines text ≡ before ++ line ∷ after) × Stops Writes start 1 before line written told

-- a front of the answers to the first lines of a text
abbrev pub IsFront : Object → List ℕ → List ℕ → Type 0
IsFront o text written =
    (start : Told) × IsBegun o start × (whole : List (List ℕ)) × (after : List (List ℕ)) × (lines text ≡ whole ++ after)
    × (goes : Bool) × (answers : List ℕ) × (told : Told) × Answered Writes start whole goes answers told
    × (count : ℕ) × (written ≡ take count answers)

-- the answers to each line that has come whole, and to no other; `held` is what has come of the next one
abbrev pub IsScriptSoFar : Object → List ℕ → List ℕ → Type 0
IsScriptSoFar o text written =
    (start : Told) × IsBegun o start × (whole : List (List ℕ)) × (held : List ℕ) × Cuts text whole held
    × NoLineFeed held
    × (told : Told) × Runs Writes start 1 whole written told
