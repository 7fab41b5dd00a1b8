-- Which operations fit a kind.
use Rattle.std.specs.Prelude.{◌≤◌}
use Rattle.value_core.specs.declared.kind.Elem.{Elem}
use Rattle.value_core.specs.declared.kind.Kind.{Kind}
use Rattle.value_core.specs.declared.kind.Kind.TheVariants.{Array, Queue, Table}
use Rattle.value_core.specs.Limits.{most_elements}

-- whether the elements are integers or texts
abbrev pub sort_of : Kind → Elem
sort_of (Array n e) = e
sort_of (Queue e) = e
sort_of (Table e) = e

-- the kind of an array
abbrev pub IsArray : Kind → Type 0
IsArray (Array n e) = Unit {0}
IsArray (Queue e) = ⊥
IsArray (Table e) = ⊥

-- the kind of a queue
abbrev pub IsQueue : Kind → Type 0
IsQueue (Array n e) = ⊥
IsQueue (Queue e) = Unit {0}
IsQueue (Table e) = ⊥

-- the kind of a table
abbrev pub IsTable : Kind → Type 0
IsTable (Array n e) = ⊥
IsTable (Queue e) = ⊥
IsTable (Table e) = Unit {0}

-- a value has at most 1,024 elements
abbrev pub IsKind : Kind → Type 0
IsKind (Array n e) = n ≤ most_elements
IsKind (Queue e) = Unit {0}
IsKind (Table e) = Unit {0}
