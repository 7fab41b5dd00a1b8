-- What is said of kinds has one proof at most, so a part can keep it beside its fields.
use denote.Struct.Props.{props}
use Rattle.std.specs.Coded.{Unit-prop}
use mathlib.Core.Sum.{⊎_set}
use Rattle.value_core.specs.declared.kind.Elem.{Elem}
use Rattle.value_core.specs.declared.kind.Kind.{Kind}
use Rattle.value_core.specs.declared.kind.Kind.TheVariants.{Array, Queue, Table}
use Rattle.value_core.specs.Kinds.{IsKind}

-- two kinds are equal in one way at most
pub elem_set : IsSet Elem
elem_set = hlevel (props, ⊎_set)

pub kind_set : IsSet Kind
kind_set = hlevel (props, ⊎_set, elem_set)

-- a kind keeps the limit in one way at most
pub is_kind_once : (kind : Kind) → IsProp (IsKind kind)
is_kind_once (Array n e) = hlevel props
is_kind_once (Queue e) = Unit-prop
is_kind_once (Table e) = Unit-prop
