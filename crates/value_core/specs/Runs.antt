-- Runs of a machine over lines.
use Rattle.std.specs.Prelude.{◌≡◌, ℕ, ◌+◌, Bool, true, false, List, [], ◌∷◌, ◌++◌, length, All, ◌==◌}
use Rattle.std.specs.Str.Lines.{lines}
use Rattle.value_core.specs.declared.engine.Pending.{Pending}

-- from a state, the line of this number gives this text, goes on (true) or stops, and leaves a state
abbrev pub Gives : Type 0 → Type 1
Gives S = S → ℕ → List ℕ → List ℕ → Bool → S → Type 0

-- from old, these lines, the first of this number, give this text one after another, and leave new
abbrev pub Runs : {S : Type 0} → Gives S → S → ℕ → List (List ℕ) → List ℕ → S → Type 0
Runs gives old number [] text new = (text ≡ []) × (new ≡ old)
Runs {S} gives old number (line ∷ more) text new =
    (first : List ℕ) × (rest : List ℕ) × (mid : S) × (text ≡ first ++ rest)
    × gives old number line first true mid × Runs gives mid (number + 1) more rest new

-- these lines go on, and the line after them stops
abbrev pub Stops : {S : Type 0} → Gives S → S → ℕ → List (List ℕ) → List ℕ → List ℕ → S → Type 0
Stops {S} gives old number before line text new =
    (first : List ℕ) × (last : List ℕ) × (mid : S) × Runs gives old number before first mid
    × gives mid (number + length before) line last false new × (text ≡ first ++ last)

-- no byte is an LF
abbrev pub NoLineFeed : List ℕ → Type 0
NoLineFeed bytes = All (λ b. (b == 10) ≡ false) bytes

-- however the text goes on: these lines are whole, and this has come of the next
abbrev pub Cuts : List ℕ → List (List ℕ) → List ℕ → Type 0
Cuts text whole held = (more : List ℕ) → lines (text ++ more) ≡ whole ++ lines (held ++ more)

-- what feeding a piece does: it goes on with a rest held, or stops at a line
abbrev pub Fed : {S : Type 0} → Gives S → S → ℕ → List ℕ → Bool → List ℕ → S → ℕ → List ℕ → Type 0
Fed gives old number text true answers new next held =
    (whole : List (List ℕ)) × Cuts text whole held × Runs gives old number whole answers new
    × (next ≡ number + length whole)
Fed gives old number text false answers new next held =
    (before : List (List ℕ)) × (line : List ℕ)
    × ((more : List ℕ) → (after : List (List ℕ)) × (lines (text ++ more) ≡ before ++ line ∷ after))
    × Stops gives old number before line answers new × (next ≡ number + length before)

-- the same of what is pending, before and after a piece
abbrev pub Feeds : {S : Type 0} → Gives S → S → Pending → List ℕ → Bool → List ℕ → S → Pending → Type 0
Feeds gives old was piece goes answers new now =
    Fed gives old was.number (was.held.items ++ piece) goes answers new now.number now.held.items

-- what the end of the text does: what is held is the last line, if it is any
abbrev pub Finished : {S : Type 0} → Gives S → S → ℕ → List ℕ → Bool → List ℕ → S → Type 0
Finished gives old number held true answers new = Runs gives old number (lines held) answers new
Finished gives old number held false answers new =
    (line : List ℕ) × (lines held ≡ line ∷ []) × gives old number line answers false new
