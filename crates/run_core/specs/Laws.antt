-- Laws of the page lists that a call makes.
use Rattle.std.specs.Prelude.{◌≡◌, ◌⊎◌, ℕ, List, length, Some, slice_get}
use Rattle.value_core.specs.Contents.{Contents}
use Rattle.device_core.specs.declared.hand.Stamp.{Stamp}
use Rattle.device_core.specs.Device.{Assignment}
use Rattle.page_core.specs.declared.plan.PageWrite.{PageWrite}
use Rattle.page_core.specs.PartPins.{PartPin, pin_at, pins_by}
use Rattle.page_core.specs.Renewed.{with_sealed, AreSealed, IsIn}
use Rattle.run_core.specs.declared.judge.Change.{Change}
use Rattle.run_core.specs.Given.{AreChanges}
use Rattle.run_core.specs.CallPlanned.{IsPlanned, AreNewPins}
use Rattle.run_core.specs.Read.{PinIsRead}
use Rattle.page_core.specs.Truths.{AreLeft}

-- the bytes of the parts that are changed are those under their pins
abbrev pub ChangedAreRead : Assignment → List PartPin → List (List ℕ) → List Change → Type 0
ChangedAreRead a pins read changes =
    (k : ℕ) (change : Change) → slice_get changes k ≡ Some change →
    (bytes : List ℕ) × (slice_get read change.part ≡ Some bytes) × PinIsRead a pins change.part bytes

-- When all that was planned is sealed, the new pins hold what the body changed.
abbrev pub NewPinsAreLeft : Type 0
NewPinsAreLeft =
    (a : Assignment) (pins : List PartPin) (read : List (List ℕ)) (changes : List Change) (counts : List ℕ)
    (stamps : List Stamp) (writes : List PageWrite) (gone sealed : List Stamp) (before after : List Contents) →
    IsPlanned pins read changes counts stamps writes gone → ChangedAreRead a pins read changes →
    AreSealed a writes sealed → length sealed ≡ length writes → AreChanges changes before after →
    AreLeft a (pins_by 0 counts (with_sealed stamps writes sealed)) before after

-- Each stamp of a new page list stood at the same place of the old one, or was sealed.
abbrev pub NewPinsAreOldOrSealed : Type 0
NewPinsAreOldOrSealed =
    (pins : List PartPin) (read : List (List ℕ)) (changes : List Change) (sealed : List Stamp) (news : List PartPin)
    (gone : List Stamp) → AreNewPins pins read changes sealed news gone →
    (p k : ℕ) (pages : List Stamp) (stamp : Stamp) → pin_at news p ≡ Some pages → slice_get pages k ≡ Some stamp →
    ((olds : List Stamp) × (pin_at pins p ≡ Some olds) × (slice_get olds k ≡ Some stamp)) ⊎ IsIn stamp sealed
