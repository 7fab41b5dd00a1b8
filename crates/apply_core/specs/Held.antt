-- What parts hold of their kinds.
use Rattle.std.specs.Prelude.{◌≡◌, ℕ, List, Option, Some, slice_get}
use Rattle.value_core.specs.declared.kind.Kind.{Kind}
use Rattle.value_core.specs.Contents.{Contents, kind_of}

-- where the kind of a part is known, the part holds a value of this kind
abbrev pub HoldsItsKind : List Contents → List (Option Kind) → ℕ → Type 0
HoldsItsKind parts kinds p =
    (kind : Kind) → slice_get kinds p ≡ Some (Some kind) →
    (value : Contents) × (slice_get parts p ≡ Some value) × (kind_of value ≡ kind)
