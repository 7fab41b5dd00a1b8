-- How a run over a text ends.
use Rattle.std.specs.Prelude.{◌≡◌, ℕ, ◌+◌, Bool, true, false, Option, unwrap_or, List, [], ◌∷◌, ◌++◌, length, take}
use Rattle.std.specs.Str.Lines.{lines}
use Rattle.std.specs.Io.KnownBytes.{IsAtEnd}
use Rattle.value_core.specs.Runs.{Gives, Runs, Stops, Cuts, NoLineFeed}
use Rattle.value_core.specs.declared.machine.LinesEnd.{LinesEnd}
use Rattle.value_core.specs.declared.machine.LinesEnd.TheVariants.{Whole, Stopped}

-- A run over the text that was read, where `left` is what is known to be left of it. Whole: nothing
-- is left, and each line was answered. Stopped k: the lines up to the k-th were, and that stopped it.
abbrev pub Ends : {S : Type 0} → Gives S → S → List ℕ → Option (List ℕ) → LinesEnd → List ℕ → S → Type 0
Ends gives old text left Whole written new = IsAtEnd left × Runs gives old 1 (lines text) written new
Ends gives old text left (Stopped k) written new =
    (before : List (List ℕ)) × (line : List ℕ) × (after : List (List ℕ)) × (k ≡ length before + 1)
    × (lines (text ++ unwrap_or left []) ≡ before ++ line ∷ after) × Stops gives old 1 before line written new

-- these lines are answered, and the last may stop the run
abbrev pub Answered : {S : Type 0} → Gives S → S → List (List ℕ) → Bool → List ℕ → S → Type 0
Answered gives old whole true answers new = Runs gives old 1 whole answers new
Answered gives old whole false answers new =
    (before : List (List ℕ)) × (line : List ℕ) × (whole ≡ before ++ line ∷ [])
    × Stops gives old 1 before line answers new

-- a run that a fault cut off wrote a front of the answers to the first lines
abbrev pub Begins : {S : Type 0} → Gives S → S → List ℕ → Option (List ℕ) → List ℕ → Type 0
Begins {S} gives old text left written =
    (whole : List (List ℕ)) × (after : List (List ℕ)) × (lines (text ++ unwrap_or left []) ≡ whole ++ after)
    × (goes : Bool) × (answers : List ℕ) × (new : S) × Answered gives old whole goes answers new
    × (count : ℕ) × (written ≡ take count answers)

-- each line that has come whole is answered, and no other; `held` is what has come of the next one
abbrev pub AllAnswered : {S : Type 0} → Gives S → S → List ℕ → List ℕ → Type 0
AllAnswered {S} gives old text written =
    (whole : List (List ℕ)) × (held : List ℕ) × Cuts text whole held × NoLineFeed held
    × (new : S) × Runs gives old 1 whole written new
