-- The bytes of page lists.
use Rattle.std.specs.Prelude.{◌≡◌, ℕ, List, [], ◌∷◌, ◌++◌, length, map, take, drop, Option, Some, None}
use Rattle.std.specs.List.{concat}
use Rattle.device_core.specs.declared.hand.Stamp.{Stamp}
use Rattle.device_core.specs.Device.{Assignment, IsWhole, bytes_of}
use Rattle.page_core.specs.Cut.{AreFull}

-- some bytes, and others behind them, where there are both
abbrev pub one_behind : Option (List ℕ) → Option (List ℕ) → Option (List ℕ)
one_behind None more = None
one_behind (Some bytes) None = None
one_behind (Some bytes) (Some more) = Some (bytes ++ more)

-- The bytes of a page list are those of its pages, in order.
abbrev pub list_bytes : Assignment → List Stamp → Option (List ℕ)
list_bytes a [] = Some []
list_bytes a (page ∷ more) = one_behind (bytes_of a page) (list_bytes a more)

-- A page list is whole where each of its pages is.
abbrev pub AreWhole : Assignment → List Stamp → Type 0
AreWhole a [] = Unit {0}
AreWhole a (page ∷ more) = IsWhole a page × AreWhole a more

-- a page is whole, and these are its bytes
pub record IsPage (a : Assignment) (page : Stamp) (bytes : List ℕ) : Type 0 where
  pub whole : IsWhole a page
  pub there : bytes_of a page ≡ Some bytes

-- page by page
abbrev pub ArePages : Assignment → List Stamp → List (List ℕ) → Type 0
ArePages a [] [] = Unit {0}
ArePages a (page ∷ more) (bytes ∷ rest) = IsPage a page bytes × ArePages a more rest
ArePages a [] (bytes ∷ rest) = ⊥
ArePages a (page ∷ more) [] = ⊥

-- bytes, cut behind as many as each of these lengths says
abbrev pub split_by : List ℕ → List ℕ → List (List ℕ)
split_by [] bytes = []
split_by (len ∷ lens) bytes = take len bytes ∷ split_by lens (drop len bytes)

-- these, one behind the other, are the bytes, and all are of this size but the last
pub record AreCutBy (size : ℕ) (bytes : List ℕ) (pages : List (List ℕ)) : Type 0 where
  pub whole : concat pages ≡ bytes
  pub full : AreFull size (map length pages)

-- bytes, written over by others from the first one on; they stay as many
abbrev pub written_over : List ℕ → List ℕ → List ℕ
written_over bytes news = take (length bytes) (news ++ drop (length news) bytes)
