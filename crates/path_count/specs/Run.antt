-- Runs of `paths` over whole texts.
use Rattle.std.specs.Prelude.{◌≡◌, ℕ, ◌+◌, Bool, List, ◌∷◌, ◌++◌, length, take}
use Rattle.std.specs.Str.Lines.{lines}
use Rattle.value_core.specs.Runs.{Runs, Stops, Cuts, NoLineFeed}
use Rattle.value_core.specs.Ends.{Answered}
use Rattle.value_core.specs.declared.machine.LinesEnd.{LinesEnd}
use Rattle.value_core.specs.declared.machine.LinesEnd.TheVariants.{Whole, Stopped}
use Rattle.path_count.specs.Told.{Told, nothing_told}
use Rattle.path_count.specs.Answers.{Answers}

-- What a run over a text writes. Whole: the answers to all its lines. Stopped k: the answers up to
-- that of line k, which stops the run.
abbrev pub IsRun : List ℕ → LinesEnd → List ℕ → Type 0
IsRun text Whole written = (told : Told) × Runs Answers nothing_told 1 (lines text) written told
IsRun text (Stopped k) written =
    (before : List (List ℕ)) × (line : List ℕ) × (after : List (List ℕ)) × (told : Told) × (k ≡ length before + 1)
    × (lines text ≡ before ++ line ∷ after) × Stops Answers nothing_told 1 before line written told

-- a front of the answers to the first lines of a text
abbrev pub IsFront : List ℕ → List ℕ → Type 0
IsFront text written =
    (whole : List (List ℕ)) × (after : List (List ℕ)) × (lines text ≡ whole ++ after)
    × (goes : Bool) × (answers : List ℕ) × (told : Told) × Answered Answers nothing_told whole goes answers told
    × (count : ℕ) × (written ≡ take count answers)

-- the answers to each line that has come whole, and to no other; `held` is what has come of the next one
abbrev pub IsRunSoFar : List ℕ → List ℕ → Type 0
IsRunSoFar text written =
    (whole : List (List ℕ)) × (held : List ℕ) × Cuts text whole held × NoLineFeed held
    × (told : Told) × Runs Answers nothing_told 1 whole written told
