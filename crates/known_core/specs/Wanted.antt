-- Of which parts of an operation pages may not be known.
use Rattle.std.specs.Prelude.{◌≡◌, ℕ, ◌+◌, ◌*◌, ◌<◌, ◌≤◌, ◌⊎◌, Bool, true, false, List, slice_index}
use Rattle.std.specs.Int.{bit_at}
use Rattle.value_core.specs.declared.kind.Elem.TheVariants as elem
use Rattle.value_core.specs.declared.kind.Kind.{Kind}
use Rattle.value_core.specs.declared.kind.Kind.TheVariants as kind
use Rattle.decl_core.specs.declared.object.Operation.{Operation}
use Rattle.apply_core.specs.Pages.{page_bytes}
use Rattle.apply_core.specs.Fits.{IsNamed}
use Rattle.known_core.specs.Masks.{IsOneMore, most_pages}

-- whether this is an array of integers
abbrev pub are_integers : Kind → Bool
are_integers (kind.Array n elem.Integer) = true
are_integers (kind.Array n elem.Text) = false
are_integers (kind.Queue e) = false
are_integers (kind.Table e) = false

-- an array of integers that the operation reads: pages of it may be read later
pub record IsWanted (operation : Operation) (p : ℕ) : Type 0 where
  pub many : ℕ
  pub named : IsNamed operation p (kind.Array many elem.Integer)

-- each page of a part is known
abbrev pub IsFull : List ℕ → ℕ → Type 0
IsFull masks p = (k : ℕ) → k < most_pages → bit_at (slice_index masks p) k ≡ 1

-- each page of each part is known
abbrev pub AreFull : List ℕ → Type 0
AreFull masks = (p : ℕ) → p < 16 → IsFull masks p

-- only of the arrays of integers that the operation reads may a page not be known
abbrev pub AreMasksFor : Operation → List ℕ → Type 0
AreMasksFor operation masks = (p : ℕ) → p < 16 → IsWanted operation p ⊎ IsFull masks p

-- a page of an array of integers that the operation reads, which is there and not known
pub record IsNextPage (masks : List ℕ) (operation : Operation) (p k : ℕ) : Type 0 where
  pub wanted : IsWanted operation p
  pub few : k < most_pages
  pub there : page_bytes * k < 4 + 4 * wanted.many
  pub clear : bit_at (slice_index masks p) k ≡ 0

-- Where a page more is known of an array of integers that the operation reads, they are masks for it as before.
abbrev pub MasksGrow : Type 0
MasksGrow =
    (operation : Operation) (old new : List ℕ) (p k : ℕ) → IsWanted operation p → IsOneMore old new p k →
    AreMasksFor operation old → AreMasksFor operation new

-- the mask of a part, where that of an array of integers that the operation reads is given; of all
-- else each page is known
abbrev pub IsFitOf : Operation → (p mask fit : ℕ) → Type 0
IsFitOf operation p mask fit = (IsWanted operation p × (fit ≡ mask)) ⊎ ((IsWanted operation p → ⊥) × (fit ≡ 255))

-- the masks of the parts before this one are fit; from it on each page is known
pub record IsFitSoFar (operation : Operation) (masks fit : List ℕ) (n : ℕ) : Type 0 where
  pub before : (p : ℕ) → p < n → IsFitOf operation p (slice_index masks p) (slice_index fit p)
  pub behind : (p : ℕ) → n ≤ p → p < 16 → slice_index fit p ≡ 255
