-- What is done to the value files of a folder.
use Rattle.std.specs.Prelude.{◌≡◌, ◌∷◌, [], ◌++◌, ℕ, List, Bool, true, false, Option, Some, None}

-- A call, with its answer.
pub data Deed : Type 0 where
  -- a file is to be removed, and is gone or not
  removes : (number : ℕ) (is_gone : Bool) → Deed
  -- a folder for files that an earlier run left is made, of this number
  opens : (left : Option ℕ) → Deed
  -- a file is to be put into such a folder, and is there or not
  puts : (number left : ℕ) (is_there : Bool) → Deed

-- Each of these files was to be removed, once, in order, and nothing else was asked.
pub data RemovesAll {V : Type 0} (does : V → Deed → V → Type 0) (old : V) : List ℕ → V → Type 0 where
  none : RemovesAll does old [] old
  removed : (numbers : List ℕ) (values next : V) (number : ℕ) (is_gone : Bool) →
      RemovesAll does old numbers values → does values (removes number is_gone) next →
      RemovesAll does old (numbers ++ number ∷ []) next

-- Each of these files was to be put into that folder, once, in order, and nothing else was asked: those that are
-- there, in order, and those that stay where they were.
pub data PutsAll {V : Type 0} (does : V → Deed → V → Type 0) (left : ℕ) (old : V)
    : List ℕ → List ℕ → List ℕ → V → Type 0 where
  nothing : PutsAll does left old [] [] [] old
  moved : (numbers there stays : List ℕ) (values next : V) (number : ℕ) →
      PutsAll does left old numbers there stays values → does values (puts number left true) next →
      PutsAll does left old (numbers ++ number ∷ []) (there ++ number ∷ []) stays next
  stayed : (numbers there stays : List ℕ) (values next : V) (number : ℕ) →
      PutsAll does left old numbers there stays values → does values (puts number left false) next →
      PutsAll does left old (numbers ++ number ∷ []) there (stays ++ number ∷ []) next

-- A folder was made, and each of these files was to be put there; where none was made, all stay.
abbrev pub MovesLeft : {V : Type 0} → (V → Deed → V → Type 0) → V → List ℕ → Option ℕ → List ℕ → List ℕ → V → Type 0
MovesLeft does old numbers None there stays new = does old (opens None) new × (there ≡ []) × (stays ≡ numbers)
MovesLeft {V} does old numbers (Some left) there stays new =
    (mid : V) × does old (opens (Some left)) mid × PutsAll does left mid numbers there stays new
