-- When an outcome is true: what the pinned bytes spell, what the body gives on that, and what its new page lists hold.
use Rattle.std.specs.Prelude.{◌≡◌, ◌≢◌, ℕ, List, [], Option, Some, None, slice_get}
use Rattle.value_core.specs.declared.kind.Kind.{Kind}
use Rattle.value_core.specs.Contents.{Contents, kind_of}
use Rattle.value_bytes.specs.Spelling.{Spells}
use Rattle.value_bytes.specs.Laws.{AreBytes}
use Rattle.device_core.specs.declared.hand.Stamp.{Stamp}
use Rattle.device_core.specs.Device.{Assignment}
use Rattle.apply_core.specs.declared.reply.Failure.TheVariants as failures
use Rattle.apply_core.specs.declared.reply.Reply.{Reply}
use Rattle.apply_core.specs.declared.reply.Reply.TheVariants.{Done, Refused, Failed}
use Rattle.apply_core.specs.Fits.{IsNamed}
use Rattle.page_core.specs.Bytes.{list_bytes, AreWhole}
use Rattle.page_core.specs.PartPins.{PartPin, pin_at}
use Rattle.page_core.specs.Given.{IsDone, IsRefused, IsDamaged}
use Rattle.page_core.specs.CallPins.{Call}

-- these are the bytes under the pin of this part
abbrev pub PinHolds : Assignment → List PartPin → ℕ → List ℕ → Type 0
PinHolds a pins p bytes = (pages : List Stamp) × (pin_at pins p ≡ Some pages) × (list_bytes a pages ≡ Some bytes)

-- a part without a new pin is as it was; another one holds another value, its new pin is whole, and the bytes
-- under it spell that value
abbrev pub IsLeft : Assignment → Option Contents → Option Contents → Option (List Stamp) → Type 0
IsLeft a before after None = after ≡ before
IsLeft a before after (Some pages) =
    (value : Contents) × (after ≡ Some value) × (before ≢ Some value)
    × ((bytes : List ℕ) × Spells bytes (kind_of value) value × AreWhole a pages × (list_bytes a pages ≡ Some bytes))

abbrev pub AreLeft : Assignment → List PartPin → List Contents → List Contents → Type 0
AreLeft a news before after = (p : ℕ) → IsLeft a (slice_get before p) (slice_get after p) (pin_at news p)

-- what a reply says of the bytes under the pins
abbrev pub IsTrueAt : Assignment → Call → Reply → List PartPin → Type 0
IsTrueAt a call (Done reply) news = IsDone (PinHolds a call.pins) call.operation call.arguments reply (AreLeft a news)
IsTrueAt a call (Refused word) news = IsRefused (PinHolds a call.pins) call.operation call.arguments word × (news ≡ [])
IsTrueAt a call (Failed failures.Damaged) news = IsDamaged (PinHolds a call.pins) call.operation
IsTrueAt a call (Failed failures.Device) news = Unit {0}
IsTrueAt a call (Failed failures.Memory) news = Unit {0}

-- a page list is whole, and what stands under it are bytes: an assignment maps to lists of numbers
pub record IsPinWhole (a : Assignment) (pages : List Stamp) : Type 0 where
  pub whole : AreWhole a pages
  pub bytes : List ℕ
  pub there : list_bytes a pages ≡ Some bytes
  pub are : AreBytes bytes

-- each pin of a part that the operation reads is whole
abbrev pub PinsAreWhole : Assignment → Call → Type 0
PinsAreWhole a call =
    (p : ℕ) (kind : Kind) (pages : List Stamp) → IsNamed call.operation p kind → pin_at call.pins p ≡ Some pages →
    IsPinWhole a pages

-- An outcome is true of an assignment where, if the pins of its reads are whole, what it replies is what the body gives
-- on the contents that they spell, and its new pins hold what the body changed.
abbrev pub IsTrueOf : Assignment → Call → Reply → List PartPin → Type 0
IsTrueOf a call reply news = PinsAreWhole a call → IsTrueAt a call reply news
