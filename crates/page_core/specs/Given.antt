-- What a body gives on the bytes of its parts: the contents that they spell, and the reply.
use Rattle.std.specs.Prelude.{◌≡◌, ℕ, List, Option, Some, slice_get}
use Rattle.value_core.specs.declared.datum.Datum.{Datum}
use Rattle.value_core.specs.declared.kind.Kind.{Kind}
use Rattle.value_core.specs.Contents.{Contents}
use Rattle.value_bytes.specs.Spelling.{Spells}
use Rattle.decl_core.specs.declared.object.Operation.{Operation}
use Rattle.decl_core.specs.Bodies.{body_of}
use Rattle.decl_core.specs.Meaning.{apply_body, done, refused}
use Rattle.apply_core.specs.Fits.{IsNamed}

-- by these bytes of its parts, each part that an operation reads holds the value that its bytes spell
abbrev pub AreSpelled : (ℕ → List ℕ → Type 0) → Operation → List Contents → Type 0
AreSpelled at operation parts =
    (p : ℕ) (kind : Kind) → IsNamed operation p kind →
    (bytes : List ℕ) × at p bytes × ((value : Contents) × (slice_get parts p ≡ Some value) × Spells bytes kind value)

-- the body was done on the contents that these bytes spell, gave this reply, and left this of them
pub record IsDone (at : ℕ → List ℕ → Type 0) (operation : Operation) (arguments : List Datum) (reply : Option Datum)
    (left : List Contents → List Contents → Type 0) : Type 0 where
  pub parts : List Contents
  pub spelled : AreSpelled at operation parts
  pub gives : (apply_body (body_of operation) arguments parts).0 ≡ done reply
  pub leaves : left parts (apply_body (body_of operation) arguments parts).1

-- the body was refused on the contents that these bytes spell
pub record IsRefused (at : ℕ → List ℕ → Type 0) (operation : Operation) (arguments : List Datum)
    (word : List ℕ) : Type 0 where
  pub parts : List Contents
  pub spelled : AreSpelled at operation parts
  pub gives : (apply_body (body_of operation) arguments parts).0 ≡ refused word

-- the bytes of a part that the operation reads spell no value of its kind
pub record IsDamaged (at : ℕ → List ℕ → Type 0) (operation : Operation) : Type 0 where
  pub p : ℕ
  pub kind : Kind
  pub named : IsNamed operation p kind
  pub bytes : List ℕ
  pub there : at p bytes
  pub spell_none : (value : Contents) → Spells bytes kind value → ⊥
