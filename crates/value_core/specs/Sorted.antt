-- Rows in the order of their keys.
use Rattle.std.specs.Prelude.{◌≡◌, ◌<◌, ◌≤◌, ℕ, List, map, length}
use Rattle.std.specs.declared.cmp.Ordering.TheVariants.{Less, Equal, Greater}
use Rattle.std.specs.List.{AllWithin, HoldsAt}
use Rattle.std.specs.List.Sorted.{IsStrictlySortedBy}
use Rattle.value_core.specs.TextOrder.{text_cmp}

-- each key comes before those after it
abbrev pub Rise : {X : Type 0} → List (List ℕ × X) → Type 0
Rise es = IsStrictlySortedBy text_cmp (map (λ e. e.0) es)

-- the row at this place has the key: those before it are lower
pub record StandsAt {X : Type 0} (es : List (List ℕ × X)) (key : List ℕ) (place : ℕ) : Type 0 where
  pub inside : place < length es
  pub lower : AllWithin (λ e. text_cmp e.0 key ≡ Less) es 0 place
  pub same : HoldsAt (λ e. text_cmp e.0 key ≡ Equal) es place

-- the key would go to this place: the keys before it are lower, and those from it on are higher
pub record IsGapFor {X : Type 0} (es : List (List ℕ × X)) (key : List ℕ) (place : ℕ) : Type 0 where
  pub inside : place ≤ length es
  pub lower : AllWithin (λ e. text_cmp e.0 key ≡ Less) es 0 place
  pub higher : AllWithin (λ e. text_cmp e.0 key ≡ Greater) es place (length es)
