-- How bytes are cut into pages.
use Rattle.std.specs.Prelude.{◌≡◌, ℕ, ◌+◌, ◌*◌, ◌<◌, ◌≤◌, ◌⊎◌, List, [], ◌∷◌, length, map}
use Rattle.std.specs.List.{concat}
use Rattle.device_core.specs.declared.hand.Stamp.{Stamp}

-- a part has at most so many pages
abbrev pub most_pages : ℕ
most_pages = 8

-- the sizes that a page may have, rising
abbrev pub page_sizes : List ℕ
page_sizes = 1024 ∷ 2048 ∷ 4096 ∷ 8192 ∷ 16384 ∷ 32768 ∷ 65536 ∷ 131072 ∷ 262144 ∷ []

-- of these sizes this is the first of which as many pages as a part may have hold so many bytes
abbrev pub IsFirstFor : ℕ → List ℕ → ℕ → Type 0
IsFirstFor count [] size = ⊥
IsFirstFor count (first ∷ more) size =
    ((count ≤ most_pages * first) × (size ≡ first)) ⊎ ((most_pages * first < count) × IsFirstFor count more size)

-- so many bytes are cut into pages of this size: the least that a page may have
abbrev pub IsPageSize : ℕ → ℕ → Type 0
IsPageSize count size = IsFirstFor count page_sizes size

-- so many bytes these lengths are together
abbrev pub together : List ℕ → ℕ
together [] = 0
together (len ∷ more) = len + together more

-- the last page has a byte at least and is not longer than the size; any other one, which has some behind it, is full
abbrev pub IsLength : ℕ → ℕ → List ℕ → Type 0
IsLength size len [] = (0 < len) × (len ≤ size)
IsLength size len (next ∷ more) = len ≡ size

abbrev pub AreFull : ℕ → List ℕ → Type 0
AreFull size [] = Unit {0}
AreFull size (len ∷ more) = IsLength size len more × AreFull size more

-- these are the lengths of the pages into which as many bytes are cut as they are together
pub record AreCutLengths (lens : List ℕ) : Type 0 where
  pub some : 0 < together lens
  pub size : ℕ
  pub least : IsPageSize (together lens) size
  pub full : AreFull size lens

-- bytes are cut into pages: these, one behind the other, are the bytes
pub record IsCut (bytes : List ℕ) (pages : List (List ℕ)) : Type 0 where
  pub whole : concat pages ≡ bytes
  pub lens : AreCutLengths (map length pages)

-- the lengths of files
abbrev pub lengths : List Stamp → List ℕ
lengths stamps = map (λ (s : Stamp). s.len) stamps

-- what stands in a row where there is no file
abbrev pub no_stamp : Stamp
no_stamp = record { number = 0; len = 0 }
