-- What a call is, and which pins it needs.
use Rattle.std.specs.Prelude.{◌≡◌, ◌≢◌, ℕ, ◌<◌, ◌≤◌, List, None, Some, length}
use Rattle.value_core.specs.declared.datum.Datum.{Datum}
use Rattle.decl_core.specs.declared.object.Operation.{Operation}
use Rattle.decl_core.specs.Bodies.{body_of}
use Rattle.decl_core.specs.Touched.{Reads}
use Rattle.device_core.specs.declared.hand.Stamp.{Stamp}
use Rattle.page_core.specs.PartPins.{PartPin, pin_at}

-- a call: its number, its operation, its arguments, and the pins of the parts that it reads
pub record Call : Type 0 where
  pub number : ℕ
  pub operation : Operation
  pub arguments : List Datum
  pub pins : List PartPin

abbrev pub call_of : ℕ → Operation → List Datum → List PartPin → Call
call_of number operation arguments pins =
    record { number = number; operation = operation; arguments = arguments; pins = pins }

-- each part that an operation reads has a pin
abbrev pub HasPins : Operation → List PartPin → Type 0
HasPins operation pins = (p : ℕ) → Reads (body_of operation).statements p → pin_at pins p ≢ None

-- a call reads no part from this one on
abbrev pub ReadsNone : Call → ℕ → Type 0
ReadsNone call from = (q : ℕ) → Reads (body_of call.operation).statements q → from ≤ q → ⊥

-- this is the first part from this one on that a call reads, and it has a pin
pub record IsNext (call : Call) (from part : ℕ) : Type 0 where
  pub read : Reads (body_of call.operation).statements part
  pub behind : from ≤ part
  pub first : (q : ℕ) → Reads (body_of call.operation).statements q → from ≤ q → q < part → ⊥
  pub pinned : pin_at call.pins part ≢ None

-- each part that has a pin has from 1 to 8 pages
abbrev pub AreSized : List PartPin → Type 0
AreSized pins = (p : ℕ) (pages : List Stamp) → pin_at pins p ≡ Some pages → (0 < length pages) × (length pages ≤ 8)
