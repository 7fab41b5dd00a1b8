-- The files that nobody needs any more.
use Rattle.std.specs.Prelude.{◌≡◌, ℕ, ◌⊎◌, List, [], ◌∷◌, ◌++◌, Some}
use Rattle.decl_core.specs.Bodies.{body_of}
use Rattle.decl_core.specs.Touched.{Reads}
use Rattle.device_core.specs.declared.hand.Stamp.{Stamp}
use Rattle.page_core.specs.PartPins.{pin_at}
use Rattle.page_core.specs.ObjectCalls.{RunningCall}
use Rattle.page_core.specs.Lists.{Among}

-- one of these stamps is of the file of this number
abbrev pub HasFile : ℕ → List Stamp → Type 0
HasFile number stamps = (stamp : Stamp) × Among stamp stamps × (stamp.number ≡ number)

-- the file of this number is a page of one of these pins
abbrev pub IsIn : ℕ → List (List Stamp) → Type 0
IsIn number pins = (pages : List Stamp) × Among pages pins × HasFile number pages

-- the file of this number is a page of a pin of a running call, for a part that its operation reads
pub record IsRead (number : ℕ) (r : RunningCall) : Type 0 where
  pub p : ℕ
  pub reads : Reads (body_of r.call.operation).statements p
  pub pages : List Stamp
  pub there : pin_at r.pins p ≡ Some pages
  pub same : HasFile number pages

-- The file of this number is needed: it is published, or pinned by a running call for a part that it reads.
abbrev pub IsNeeded : List (List Stamp) → List RunningCall → ℕ → Type 0
IsNeeded pins running number = IsIn number pins ⊎ ((r : RunningCall) × Among r running × IsRead number r)

-- From some stamps in order, each number once, those are picked whose file is not needed; some were picked before.
pub data Picks (Needed : ℕ → Type 0) : List Stamp → List Stamp → List Stamp → Type 0 where
  no_more : {picked : List Stamp} → Picks Needed picked [] picked
  needed : {picked rest all : List Stamp} (s : Stamp) → Needed s.number → Picks Needed picked rest all →
      Picks Needed picked (s ∷ rest) all
  again : {picked rest all : List Stamp} (s : Stamp) → HasFile s.number picked → Picks Needed picked rest all →
      Picks Needed picked (s ∷ rest) all
  one_more : {picked rest all : List Stamp} (s : Stamp) → (Needed s.number → ⊥) → (HasFile s.number picked → ⊥) →
      Picks Needed (picked ++ s ∷ []) rest all → Picks Needed picked (s ∷ rest) all
