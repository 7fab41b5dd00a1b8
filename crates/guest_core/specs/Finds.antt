-- What is found by names.
use Rattle.std.specs.Prelude.{◌≡◌, ℕ, List, Option, cond, bytes_eq}

-- by this name that is found, and by each other one the same as before
abbrev pub Finds : (List ℕ → Option ℕ) → List ℕ → Option ℕ → (List ℕ → Option ℕ) → Type 0
Finds find name at new = (q : List ℕ) → new q ≡ cond (bytes_eq name q) at (find q)
