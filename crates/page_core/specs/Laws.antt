-- Laws of plans.
use Rattle.std.specs.Prelude.{◌≡◌, ◌⊎◌, ℕ, ◌+◌, ◌≤◌, List, [], ◌∷◌, ◌++◌, length, take, drop, Some}
use Rattle.device_core.specs.declared.hand.Stamp.{Stamp}
use Rattle.device_core.specs.Device.{Assignment}
use Rattle.page_core.specs.declared.plan.PageWrite.{PageWrite}
use Rattle.page_core.specs.Cut.{lengths}
use Rattle.page_core.specs.Bytes.{list_bytes, AreWhole, AreCutBy, split_by}
use Rattle.page_core.specs.Plans.{Plans}
use Rattle.page_core.specs.Renewed.{with_sealed, AreSealed}

-- place by place: both pages are what they are there, or they are equal here and equal there
abbrev pub AreAlike : (befores pages befores_there pages_there : List (List ℕ)) → Type 0
AreAlike [] [] [] [] = Unit {0}
AreAlike [] (p ∷ ps) [] (q ∷ qs) = (p ≡ q) × AreAlike [] ps [] qs
AreAlike (b ∷ bs) (p ∷ ps) (c ∷ cs) (q ∷ qs) = (((b ≡ c) × (p ≡ q)) ⊎ ((b ≡ p) × (c ≡ q))) × AreAlike bs ps cs qs
AreAlike (b ∷ bs) [] (c ∷ cs) [] = AreAlike bs [] cs []
AreAlike [] [] [] (q ∷ qs) = ⊥
AreAlike [] [] (c ∷ cs) qs = ⊥
AreAlike [] (p ∷ ps) [] [] = ⊥
AreAlike [] (p ∷ ps) (c ∷ cs) qs = ⊥
AreAlike (b ∷ bs) ps [] qs = ⊥
AreAlike (b ∷ bs) [] (c ∷ cs) (q ∷ qs) = ⊥
AreAlike (b ∷ bs) (p ∷ ps) (c ∷ cs) [] = ⊥

-- A plan over some bytes is a plan over others that are alike.
abbrev pub PlansTransfer : Type 0
PlansTransfer =
    (place : ℕ) (olds : List Stamp) (befores pages befores_there pages_there : List (List ℕ)) (stamps : List Stamp)
    (writes : List PageWrite) (gone : List Stamp) →
    Plans place olds befores pages stamps writes gone → AreAlike befores pages befores_there pages_there →
    Plans place olds befores_there pages_there stamps writes gone

-- a part that is renewed: its old pages, its bytes before and after, and the pages of these
pub record PartRenewal : Type 0 where
  pub olds : List Stamp
  pub before : List ℕ
  pub after : List ℕ
  pub pages : List (List ℕ)

-- the plans of some parts stand one behind the other, in one row of stamps and one of writes
pub data ArePlanned : ℕ → List PartRenewal → List Stamp → List PageWrite → List Stamp → Type 0 where
  no_part : {place : ℕ} → ArePlanned place [] [] [] []
  one_part : {place : ℕ} (part : PartRenewal) (rest : List PartRenewal) (size : ℕ) (stamps stamps_behind : List Stamp)
      (writes writes_behind : List PageWrite) (gone gone_behind : List Stamp)
      → AreCutBy size part.after part.pages →
      Plans place part.olds (split_by (lengths part.olds) part.before) part.pages stamps writes gone →
      ArePlanned (place + length stamps) rest stamps_behind writes_behind gone_behind
      → ArePlanned place (part ∷ rest) (stamps ++ stamps_behind) (writes ++ writes_behind) (gone ++ gone_behind)

-- the old list of each part is whole, and has its bytes before
abbrev pub HaveBefore : Assignment → List PartRenewal → Type 0
HaveBefore a [] = Unit {0}
HaveBefore a (part ∷ rest) = ((list_bytes a part.olds ≡ Some part.before) × AreWhole a part.olds) × HaveBefore a rest

-- the stamps of a row, as many for each part as it has pages, are whole and have its bytes after
abbrev pub HaveAfter : Assignment → List PartRenewal → List Stamp → Type 0
HaveAfter a [] stamps = Unit {0}
HaveAfter a (part ∷ rest) stamps =
    ((list_bytes a (take (length part.pages) stamps) ≡ Some part.after) × AreWhole a (take (length part.pages) stamps))
    × HaveAfter a rest (drop (length part.pages) stamps)

-- When all that is planned of some parts is sealed, their new lists are whole and have their bytes after.
abbrev pub PlannedAreRenewed : Type 0
PlannedAreRenewed =
    (a : Assignment) (parts : List PartRenewal) (stamps : List Stamp) (writes : List PageWrite)
    (gone sealed : List Stamp) →
    ArePlanned 0 parts stamps writes gone → HaveBefore a parts → AreSealed a writes sealed →
    length writes ≤ length sealed → HaveAfter a parts (with_sealed stamps writes sealed)
