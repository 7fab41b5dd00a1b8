-- What a call writes of what its body changed.
use Rattle.std.specs.Prelude.{◌≡◌, ℕ, ◌+◌, ◌<◌, ◌≤◌, List, [], ◌∷◌, ◌++◌, length, Some, slice_get}
use Rattle.device_core.specs.declared.hand.Stamp.{Stamp}
use Rattle.page_core.specs.declared.plan.PageWrite.{PageWrite}
use Rattle.page_core.specs.declared.plan.Planned.{Planned}
use Rattle.page_core.specs.Bytes.{AreCutBy}
use Rattle.page_core.specs.Cut.{IsPageSize}
use Rattle.page_core.specs.Plans.{IsPlan}
use Rattle.page_core.specs.Laws.{PartRenewal, ArePlanned}
use Rattle.page_core.specs.PartPins.{PartPin, pin_at, pins_by}
use Rattle.page_core.specs.Renewed.{with_sealed}
use Rattle.run_core.specs.declared.judge.Change.{Change}

-- A changed part is renewed: its old list is its pin, its bytes before are those that were read, and those after are
-- cut into pages of the least size.
pub record IsRenewalOf (pins : List PartPin) (read : List (List ℕ)) (change : Change)
    (part : PartRenewal) : Type 0 where
  pub pinned : pin_at pins change.part ≡ Some part.olds
  pub there : slice_get read change.part ≡ Some part.before
  pub after : part.after ≡ change.bytes
  pub size : ℕ
  pub least : IsPageSize (length change.bytes) size
  pub cut : AreCutBy size part.after part.pages
  pub some : 0 < length part.pages

-- in order, from this part on: each changed part is renewed, and there is a count of pages for each part, which is 0
-- where it was not changed
pub data AreRenewals (pins : List PartPin) (read : List (List ℕ)) : ℕ → List Change → List PartRenewal → List ℕ →
    Type 0 where
  no_part : {from : ℕ} → AreRenewals pins read from [] [] []
  same : {from : ℕ} (changes : List Change) (parts : List PartRenewal) (counts : List ℕ) →
      AreRenewals pins read (from + 1) changes parts counts → AreRenewals pins read from changes parts (0 ∷ counts)
  renewed : {from : ℕ} (change : Change) (part : PartRenewal) (changes : List Change) (parts : List PartRenewal)
      (counts : List ℕ) (count : ℕ) → change.part ≡ from → IsRenewalOf pins read change part → count ≡ length part.pages
      → AreRenewals pins read (from + 1) changes parts counts →
      AreRenewals pins read from (change ∷ changes) (part ∷ parts) (count ∷ counts)

-- the plan of the changes of a call: the counts of its new page lists, their stamps one behind the other, what is
-- written, and what goes
pub record IsPlanned (pins : List PartPin) (read : List (List ℕ)) (changes : List Change) (counts : List ℕ)
    (stamps : List Stamp) (writes : List PageWrite) (gone : List Stamp) : Type 0 where
  pub parts : List PartRenewal
  pub renewals : AreRenewals pins read 0 changes parts counts
  pub plans : ArePlanned 0 parts stamps writes gone

-- what was added to three rows is the plan of a changed part, which has so many pages
pub record IsPlannedChange (pins : List PartPin) (read : List (List ℕ)) (change : Change) (count : ℕ)
    (stamps stamps_after : List Stamp) (writes writes_after : List PageWrite)
    (gone gone_after : List Stamp) : Type 0 where
  pub olds : List Stamp
  pub before : List ℕ
  pub pinned : pin_at pins change.part ≡ Some olds
  pub there : slice_get read change.part ≡ Some before
  pub size : ℕ
  pub least : IsPageSize (length change.bytes) size
  pub plan : IsPlan size olds before change.bytes stamps stamps_after writes writes_after gone gone_after
  pub some : 0 < length plan.pages
  pub counted : count ≡ length plan.pages

-- the same of what is planned, before and after
abbrev pub IsPlannedIn : List PartPin → List (List ℕ) → Change → ℕ → Planned → Planned → Type 0
IsPlannedIn pins read change count was now =
    IsPlannedChange pins read change count was.stamps.items now.stamps.items was.writes.items now.writes.items
    was.gone.items now.gone.items

-- what was added to three rows is the plan of changes from this part on
pub record ArePlansFrom (pins : List PartPin) (read : List (List ℕ)) (from : ℕ) (changes : List Change)
    (counts : List ℕ) (stamps stamps_after : List Stamp) (writes writes_after : List PageWrite)
    (gone gone_after : List Stamp) : Type 0 where
  pub parts : List PartRenewal
  pub renewals : AreRenewals pins read from changes parts counts
  pub more_stamps : List Stamp
  pub more_writes : List PageWrite
  pub more_gone : List Stamp
  pub stamps_are : stamps_after ≡ stamps ++ more_stamps
  pub writes_are : writes_after ≡ writes ++ more_writes
  pub gone_are : gone_after ≡ gone ++ more_gone
  pub plans : ArePlanned (length stamps) parts more_stamps more_writes more_gone

-- the same of what is planned, before and after
abbrev pub ArePlansIn : List PartPin → List (List ℕ) → ℕ → List Change → List ℕ → Planned → Planned → Type 0
ArePlansIn pins read from changes counts was now =
    ArePlansFrom pins read from changes counts was.stamps.items now.stamps.items was.writes.items now.writes.items
    was.gone.items now.gone.items

-- What a call has renewed, when all that was planned is sealed: its new pins are the lists of the
-- plan, and these files go.
pub record AreNewPins (pins : List PartPin) (read : List (List ℕ)) (changes : List Change) (sealed : List Stamp)
    (news : List PartPin) (gone : List Stamp) : Type 0 where
  pub counts : List ℕ
  pub stamps : List Stamp
  pub writes : List PageWrite
  pub planned : IsPlanned pins read changes counts stamps writes gone
  pub all : length sealed ≡ length writes
  pub news_are : news ≡ pins_by 0 counts (with_sealed stamps writes sealed)

-- counts of pages: each part has at most 8
abbrev pub AreShort : List ℕ → Type 0
AreShort counts = (k count : ℕ) → slice_get counts k ≡ Some count → count ≤ 8
