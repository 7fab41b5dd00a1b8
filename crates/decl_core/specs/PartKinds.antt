-- What an operation knows of the parts of its object.
use Rattle.std.specs.Prelude.{◌≡◌, ℕ, List, [], ◌∷◌, slice_get, Option, Some}
use Rattle.std.specs.Coded.{×_prop, Unit-prop}
use denote.Struct.Props.{props}
use Rattle.value_core.specs.declared.kind.Kind.{Kind}
use Rattle.decl_core.specs.KindOnce.{kind_set}

-- where the kind of a part is known, it is that part's kind
abbrev pub AreKindsOf : List Kind → List (Option Kind) → Type 0
AreKindsOf kinds known = (p : ℕ) (kind : Kind) → slice_get known p ≡ Some (Some kind) → slice_get kinds p ≡ Some kind

-- what each operation knows of kinds is true of the parts
abbrev pub EachKindsOf : List Kind → List (List (Option Kind)) → Type 0
EachKindsOf kinds [] = Unit {0}
EachKindsOf kinds (known ∷ others) = AreKindsOf kinds known × EachKindsOf kinds others

are_kinds_once : (kinds : List Kind) (known : List (Option Kind)) → IsProp (AreKindsOf kinds known)
are_kinds_once kinds known = hlevel (props, kind_set)

-- this has one proof at most, so an object can keep it beside its fields
pub each_kinds_once : (kinds : List Kind) (all : List (List (Option Kind))) → IsProp (EachKindsOf kinds all)
each_kinds_once kinds [] = Unit-prop
each_kinds_once kinds (known ∷ others) = ×_prop (are_kinds_once kinds known) (each_kinds_once kinds others)
