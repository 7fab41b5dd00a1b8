-- What is known of the bytes of the parts that an operation reads.
use Rattle.std.specs.Prelude.{◌≡◌, ℕ, Bool, ◌==◌, List, Err, slice_index}
use Rattle.std.specs.Int.{bit_at}
use Rattle.value_core.specs.declared.datum.Datum.{Datum}
use Rattle.value_core.specs.declared.kind.Elem.TheVariants as elem
use Rattle.value_core.specs.declared.kind.Kind.{Kind}
use Rattle.value_core.specs.declared.kind.Kind.TheVariants as kind
use Rattle.value_core.specs.Contents.{Contents}
use Rattle.decl_core.specs.declared.object.Operation.{Operation}
use Rattle.decl_core.specs.Bodies.{body_of}
use Rattle.apply_core.specs.Pages.{page_of}
use Rattle.apply_core.specs.Fits.{IsNamed}
use Rattle.known_core.specs.Filled.{IsFilled}
use Rattle.known_core.specs.Masks.{known_by}
use Rattle.known_core.specs.Partly.{needs, partly_done}
use Rattle.page_core.specs.Given.{AreSpelled}
use Rattle.run_core.specs.Verdicts.{ReadAs}

-- which pages of a part are known
abbrev pub pages_of : List ℕ → ℕ → ℕ → Bool
pages_of masks p k = bit_at (slice_index masks p) k == 1

-- of an array of integers some pages are known; of all else all is
abbrev pub IsKnownAs : Kind → (ℕ → Bool) → List ℕ → List ℕ → Type 0
IsKnownAs (kind.Array n elem.Integer) pages filled whole = IsFilled pages filled whole
IsKnownAs (kind.Array n elem.Text) pages filled whole = filled ≡ whole
IsKnownAs (kind.Queue e) pages filled whole = filled ≡ whole
IsKnownAs (kind.Table e) pages filled whole = filled ≡ whole

-- what was read of a part, and its whole bytes
pub record IsKnownPart (masks : List ℕ) (read : List (List ℕ)) (at : ℕ → List ℕ → Type 0) (p : ℕ)
    (k : Kind) : Type 0 where
  pub filled : List ℕ
  pub there : ReadAs read p filled
  pub whole : List ℕ
  pub held : at p whole
  pub known : IsKnownAs k (pages_of masks p) filled whole

-- What was read of each part that an operation reads is what is known of its whole bytes.
abbrev pub AreKnown : List ℕ → Operation → List (List ℕ) → (ℕ → List ℕ → Type 0) → Type 0
AreKnown masks operation read at = (p : ℕ) (k : Kind) → IsNamed operation p k → IsKnownPart masks read at p k

-- A body comes to a page that is not known: on the contents that the whole bytes spell, over what is known of them, it
-- comes to an element in it.
pub record IsDue (masks : List ℕ) (at : ℕ → List ℕ → Type 0) (operation : Operation) (arguments : List Datum)
    (p k : ℕ) : Type 0 where
  pub parts : List Contents
  pub spelled : AreSpelled at operation parts
  pub element : ℕ
  pub comes : partly_done (known_by masks) (body_of operation) arguments parts ≡ Err (needs p element)
  pub page : page_of element ≡ k
