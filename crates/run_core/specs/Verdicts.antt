-- The bytes read of the parts of a body, and what became of each part.
use Rattle.std.specs.Prelude.{◌≡◌, ◌≢◌, ℕ, ◌<◌, ◌⊎◌, ◌↔◌, List, Option, Some, None, slice_get, length}
use Rattle.std.specs.Int.{bit_at}
use Rattle.value_core.specs.declared.kind.Kind.{Kind}
use Rattle.value_core.specs.Contents.{Contents, kind_of}
use Rattle.value_bytes.specs.Spelling.{Spells}
use Rattle.decl_core.specs.declared.object.Operation.{Operation}
use Rattle.decl_core.specs.Bodies.{body_of}
use Rattle.decl_core.specs.Form.{Statements}
use Rattle.decl_core.specs.Touched.{Reads, Writes}
use Rattle.run_core.specs.declared.judge.Change.{Change}
use Rattle.apply_core.specs.Fits.{IsNamed}
use Rattle.page_core.specs.Given.{AreSpelled}
use Rattle.run_core.specs.Written.{WritesInOrder, parts_changed}

-- the bytes read of part p stand at place p
abbrev pub ReadAs : List (List ℕ) → ℕ → List ℕ → Type 0
ReadAs read p bytes = slice_get read p ≡ Some bytes

-- the changed parts are of the writes, and their numbers rise from this one on
abbrev pub Rising : Statements → ℕ → List Change → Type 0
Rising statements from changes = WritesInOrder statements from (parts_changed changes)

-- these bits are these parts
abbrev pub AreBits : ℕ → (ℕ → Type 0) → Type 0
AreBits bits Parts = (p : ℕ) → (bit_at bits p ≡ 1) ↔ Parts p

-- the operation reads no part
abbrev pub ReadsNone : Operation → Type 0
ReadsNone operation = (p : ℕ) → Reads (body_of operation).statements p → ⊥

-- there are bytes of each part that the operation reads
abbrev pub HasReads : Operation → List (List ℕ) → Type 0
HasReads operation read = (p : ℕ) → Reads (body_of operation).statements p → p < length read

-- where the operation reads part p, its bytes spell this value
abbrev pub IsPart : Operation → List (List ℕ) → ℕ → Contents → Type 0
IsPart operation read p value =
    (kind : Kind) → IsNamed operation p kind → (bytes : List ℕ) × ReadAs read p bytes × Spells bytes kind value

-- the new bytes of a part that holds this value now: none where they are the bytes before
abbrev pub IsChangeOf : List ℕ → ℕ → Contents → Option Change → Type 0
IsChangeOf before p value None = Spells before (kind_of value) value
IsChangeOf before p value (Some change) =
    (change.part ≡ p) × Spells change.bytes (kind_of value) value × (change.bytes ≢ before)

-- the change of a part that is written
pub record IsRewritten (statements : Statements) (read : List (List ℕ)) (after : List Contents) (p : ℕ)
    (change : Option Change) : Type 0 where
  pub written : Writes statements p
  pub bytes : List ℕ
  pub there : ReadAs read p bytes
  pub value : Contents
  pub held : slice_get after p ≡ Some value
  pub is : IsChangeOf bytes p value change

-- a part that is not written has no change
abbrev pub IsStep : Statements → List (List ℕ) → List Contents → ℕ → Option Change → Type 0
IsStep statements read after p change =
    IsRewritten statements read after p change ⊎ ((Writes statements p → ⊥) × (change ≡ None))

-- from these contents, which its bytes spell, an operation may leave those
pub record MayLeave (operation : Operation) (read : List (List ℕ)) (before after : List Contents) : Type 0 where
  pub spelled : AreSpelled (ReadAs read) operation before
  pub many : length after ≡ length before
  pub stay : (p : ℕ) → (Writes (body_of operation).statements p → ⊥) → slice_get after p ≡ slice_get before p
