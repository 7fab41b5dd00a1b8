-- What was read of the parts of a call.
use Rattle.std.specs.Prelude.{◌≡◌, ℕ, List, Some, slice_get}
use Rattle.decl_core.specs.Bodies.{body_of}
use Rattle.decl_core.specs.Touched.{Reads}
use Rattle.device_core.specs.declared.hand.Stamp.{Stamp}
use Rattle.device_core.specs.Device.{Assignment}
use Rattle.page_core.specs.Bytes.{list_bytes, AreWhole}
use Rattle.page_core.specs.PartPins.{PartPin, pin_at}
use Rattle.page_core.specs.CallPins.{Call}

-- these bytes were read of the pages of a part's pin, which are whole
abbrev pub PinIsRead : Assignment → List PartPin → ℕ → List ℕ → Type 0
PinIsRead a pins p bytes =
    (pages : List Stamp) × (pin_at pins p ≡ Some pages) × (list_bytes a pages ≡ Some bytes) × AreWhole a pages

-- each part that a call reads was read, and what was read are the bytes under its pin
abbrev pub AreRead : Assignment → Call → List (List ℕ) → Type 0
AreRead a call read =
    (p : ℕ) → Reads (body_of call.operation).statements p →
    (bytes : List ℕ) × (slice_get read p ≡ Some bytes) × PinIsRead a call.pins p bytes
