-- Laws of footprints: what an operation does depends on the parts that it reads alone, and it changes those
-- that it writes alone.
use Rattle.std.specs.Prelude.{◌≡◌, ℕ, List, length, slice_get}
use Rattle.value_core.specs.declared.datum.Datum.{Datum}
use Rattle.value_core.specs.Contents.{Contents}
use Rattle.decl_core.specs.Form.{Body}
use Rattle.decl_core.specs.Meaning.{apply_body}
use Rattle.decl_core.specs.Touched.{Reads, Writes}

-- these contents are the same at each such part
abbrev pub Agree : (ℕ → Type 0) → List Contents → List Contents → Type 0
Agree Parts xs ys = (p : ℕ) → Parts p → slice_get xs p ≡ slice_get ys p

-- where contents agree at the parts that a body reads, it replies the same, and what it leaves agrees there
abbrev pub ApplyIsLocal : Type 0
ApplyIsLocal = (body : Body) (args : List Datum) (xs ys : List Contents) → Agree (Reads body.statements) xs ys →
    ((apply_body body args xs).0 ≡ (apply_body body args ys).0)
    × Agree (Reads body.statements) (apply_body body args xs).1 (apply_body body args ys).1

-- a body leaves as many parts as there were, and each that it does not write as it was
abbrev pub OthersStay : Type 0
OthersStay = (body : Body) (args : List Datum) (parts : List Contents) →
    (length (apply_body body args parts).1 ≡ length parts)
    × ((p : ℕ) → (Writes body.statements p → ⊥) → slice_get (apply_body body args parts).1 p ≡ slice_get parts p)

-- what a body writes it reads
abbrev pub WritesAreReads : Type 0
WritesAreReads = (body : Body) (p : ℕ) → Writes body.statements p → Reads body.statements p
