-- Which arguments and which values a call may have.
use Rattle.std.specs.Prelude.{◌≡◌, ℕ, List, map, Some, slice_get}
use Rattle.value_core.specs.declared.datum.Datum.{Datum}
use Rattle.value_core.specs.declared.kind.Kind.{Kind}
use Rattle.value_core.specs.Datum.{elem_of}
use Rattle.value_core.specs.Contents.{Contents, kind_of}
use Rattle.decl_core.specs.declared.object.Operation.{Operation}
use Rattle.decl_core.specs.Bodies.{body_of}
use Rattle.decl_core.specs.Touched.{Reads}

-- the arguments are as many as the parameters, and each is of its parameter's sort
abbrev pub ArgumentsFit : Operation → List Datum → Type 0
ArgumentsFit operation arguments = map elem_of arguments ≡ map (λ p. p.kind) operation.params.items

-- an operation reads this part, which is of this kind
pub record IsNamed (operation : Operation) (p : ℕ) (kind : Kind) : Type 0 where
  pub named : Reads (body_of operation).statements p
  pub held : slice_get operation.kinds.items p ≡ Some (Some kind)

-- each part that an operation reads holds a value of its kind
abbrev pub HoldsReads : Operation → List Contents → Type 0
HoldsReads operation parts =
    (p : ℕ) (kind : Kind) → IsNamed operation p kind →
    (value : Contents) × (slice_get parts p ≡ Some value) × (kind_of value ≡ kind)
