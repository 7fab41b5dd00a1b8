-- How what a connection says is cut into lines.
use Rattle.std.specs.Prelude.{◌≡◌, ◌<◌, ◌≤◌, ℕ, List, [], ◌∷◌, ◌++◌, length}
use Rattle.keep_loop.specs.Texts.{NoLineFeed}
use Rattle.keep_loop.specs.declared.served.LineEnd.{LineEnd}
use Rattle.keep_loop.specs.declared.served.LineEnd.TheVariants.{Feed, Input, TooLong}

-- the most bytes of a line before its LF
abbrev pub most_line : ℕ
most_line = 4096

-- what came begins with this line, and goes on by those behind it. A line without LF is the last one: it is all that came,
-- and the input has ended, or it is longer than a line may be
abbrev pub IsCutBy : ℕ → List ℕ → List ℕ → LineEnd → List (List ℕ × LineEnd) → (List ℕ → Type 0) → Type 0
IsCutBy ended came line Feed lines GoesOn = (length line ≤ most_line) × (rest : List ℕ) × (came ≡ line ++ 10 ∷ rest) × GoesOn rest
IsCutBy ended came line Input lines GoesOn = (length line ≤ most_line) × (came ≡ line) × (0 < ended) × (lines ≡ [])
IsCutBy ended came line TooLong lines GoesOn = (most_line < length line) × (rest : List ℕ) × (came ≡ line ++ rest) × (lines ≡ [])

-- what came begins with these lines, in order
abbrev pub IsCut : ℕ → List ℕ → List (List ℕ × LineEnd) → Type 0
IsCut ended came [] = Unit {0}
IsCut ended came (l ∷ lines) = NoLineFeed l.0 × IsCutBy ended came l.0 l.1 lines (λ rest. IsCut ended rest lines)

-- what came are these lines, each with its LF, and this beginning of the next
abbrev pub IsFed : List ℕ → List (List ℕ × LineEnd) → List ℕ → Type 0
IsFed came [] held = (came ≡ held) × NoLineFeed held × (length held ≤ most_line)
IsFed came (l ∷ lines) held =
    NoLineFeed l.0 × (l.1 ≡ Feed) × (length l.0 ≤ most_line) × (rest : List ℕ) × (came ≡ l.0 ++ 10 ∷ rest) × IsFed rest lines held
