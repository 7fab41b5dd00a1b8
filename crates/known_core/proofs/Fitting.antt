-- The pages that count as known, and one more.
use Rattle.std.proofs.Common.{◌≡◌, ◌≢◌, ℕ, zero, suc, ◌+◌, ◌<◌, ◌≤◌, ◌⊎◌, inl, inr, List, [], ◌∷◌, length, refl, sym, ap, ◌∙◌, subst, arith}
use Rattle.std.specs.Prelude.{Some, slice_set, slice_index}
use Rattle.std.specs.Int.{bit_at}
use Rattle.std.proofs.lemmas.Bool.{cases_lt, cases_eq}
use Rattle.std.proofs.lemmas.List.{get_or-set_same, get_or-set_other, ext_get_or}
use Rattle.std.proofs.lemmas.Option.{slice_get_within}
use Rattle.value_core.specs.declared.kind.Elem.TheVariants as elem
use Rattle.value_core.specs.declared.kind.Kind.TheVariants as kind
use Rattle.decl_core.specs.declared.object.Operation.{Operation}
use Rattle.known_core.specs.Wanted.{IsWanted, IsFull, AreFull, AreMasksFor, MasksGrow, IsFitOf, IsFitSoFar}

-- the mask of 255 is that of a part of which each page is known
all_bits : (k : ℕ) → k < 8 → bit_at 255 k ≡ 1
all_bits zero few = refl
all_bits (suc zero) few = refl
all_bits (suc (suc zero)) few = refl
all_bits (suc (suc (suc zero))) few = refl
all_bits (suc (suc (suc (suc zero)))) few = refl
all_bits (suc (suc (suc (suc (suc zero))))) few = refl
all_bits (suc (suc (suc (suc (suc (suc zero)))))) few = refl
all_bits (suc (suc (suc (suc (suc (suc (suc zero))))))) few = refl
all_bits (suc (suc (suc (suc (suc (suc (suc (suc k)))))))) few = absurd (omega (arith, few))

-- so many such masks
abbrev pub all_masks : ℕ → List ℕ
all_masks zero = []
all_masks (suc n) = 255 ∷ all_masks n

pub all_at : (n p : ℕ) → p < n → slice_index (all_masks n) p ≡ 255
all_at zero p less = absurd (omega (arith, less))
all_at (suc n) zero less = refl
all_at (suc n) (suc p) less = all_at n p (omega (arith, less))

pub is_full : (masks : List ℕ) (p : ℕ) → slice_index masks p ≡ 255 → IsFull masks p
is_full masks p is = λ k few. ap (λ m. bit_at m k) is ∙ all_bits k few

pub are_full : (masks : List ℕ) → ((p : ℕ) → p < 16 → slice_index masks p ≡ 255) → AreFull masks
are_full masks each = λ p small. is_full masks p (each p small)

pub start : (operation : Operation) (masks fit : List ℕ) → ((p : ℕ) → p < 16 → slice_index fit p ≡ 255) → IsFitSoFar operation masks fit 0
start operation masks fit each = record { before = λ p less. absurd (omega (arith, less)); behind = λ p from small. each p small }

pub next : (operation : Operation) (masks fit : List ℕ) (n mask : ℕ) → IsFitSoFar operation masks fit n → n < length fit → IsFitOf operation n (slice_index masks n) mask → IsFitSoFar operation masks (slice_set fit n mask) (n + 1)
next operation masks fit n mask so within one = record {
  before = λ p less. at p less (cases_eq p n);
  behind = λ p from small. get_or-set_other fit n p mask 0 (λ is. absurd (omega (arith, from, is))) ∙ so.behind p (omega (arith, from)) small;
} where
  at : (p : ℕ) → p < n + 1 → (p ≡ n) ⊎ (p ≡ n → ⊥) → IsFitOf operation p (slice_index masks p) (slice_index (slice_set fit n mask) p)
  at p less (inl is) = subst (λ q. IsFitOf operation q (slice_index masks q) (slice_index (slice_set fit n mask) q)) (sym is) (subst (IsFitOf operation n (slice_index masks n)) (sym (get_or-set_same fit n mask 0 within)) one)
  at p less (inr differ) =
      let earlier : p < n = before_it (cases_lt p n) in
      subst (IsFitOf operation p (slice_index masks p)) (sym (get_or-set_other fit n p mask 0 differ)) (so.before p earlier) where
        before_it : (p < n) ⊎ (n ≤ p) → p < n
        before_it (inl h) = h
        before_it (inr h) = absurd (differ (omega (arith, h, less)))

pub masks_for : (operation : Operation) (masks fit : List ℕ) (n : ℕ) → IsFitSoFar operation masks fit n → AreMasksFor operation fit
masks_for operation masks fit n so = λ p small. at p small (cases_lt p n) where
  by_fit : (p : ℕ) → IsFitOf operation p (slice_index masks p) (slice_index fit p) → IsWanted operation p ⊎ IsFull fit p
  by_fit p (inl h) = inl h.0
  by_fit p (inr h) = inr (is_full fit p h.1)

  at : (p : ℕ) → p < 16 → (p < n) ⊎ (n ≤ p) → IsWanted operation p ⊎ IsFull fit p
  at p small (inl less) = by_fit p (so.before p less)
  at p small (inr from) = inr (is_full fit p (so.behind p from small))

-- a part that the operation wants is one of its parts
within_kinds : (operation : Operation) (p : ℕ) → IsWanted operation p → p < length operation.kinds.items
within_kinds operation p wanted = slice_get_within operation.kinds.items p (Some (kind.Array wanted.many elem.Integer)) wanted.named.held

pub same_fit : (operation : Operation) (old masks fit : List ℕ) (n : ℕ) → IsFitSoFar operation masks fit n → masks ≡ old → length operation.kinds.items ≤ n → (p : ℕ) → IsWanted operation p → slice_index fit p ≡ slice_index old p
same_fit operation old masks fit n so is end p wanted =
    let within : p < length operation.kinds.items = within_kinds operation p wanted in
    by_fit (so.before p (omega (arith, within, end))) ∙ ap (λ (ms : List ℕ). slice_index ms p) is where
      by_fit : IsFitOf operation p (slice_index masks p) (slice_index fit p) → slice_index fit p ≡ slice_index masks p
      by_fit (inl h) = h.1
      by_fit (inr h) = absurd (h.0 wanted)

pub other_fit : (operation : Operation) (masks fit : List ℕ) (n : ℕ) → IsFitSoFar operation masks fit n → (p : ℕ) → p < 16 → (IsWanted operation p → ⊥) → slice_index fit p ≡ 255
other_fit operation masks fit n so p small not = at (cases_lt p n) where
  by_fit : IsFitOf operation p (slice_index masks p) (slice_index fit p) → slice_index fit p ≡ 255
  by_fit (inl h) = absurd (not h.0)
  by_fit (inr h) = h.1

  at : (p < n) ⊎ (n ≤ p) → slice_index fit p ≡ 255
  at (inl less) = by_fit (so.before p less)
  at (inr from) = so.behind p from small

pub kept_fit : (operation : Operation) (old masks fit : List ℕ) (n : ℕ) → IsFitSoFar operation masks fit n → masks ≡ old → length masks ≡ 16 → length fit ≡ 16 → length operation.kinds.items ≤ n → ((p : ℕ) → p < 16 → (IsWanted operation p → ⊥) → slice_index old p ≡ 255) → fit ≡ old
kept_fit operation old masks fit n so is many many_fit end given = ext_get_or 0 fit masks (omega (arith, many, many_fit)) (λ p less. at p (omega (arith, less, many_fit)) (cases_lt p n)) ∙ is where
  full : (p : ℕ) → p < 16 → (IsWanted operation p → ⊥) → slice_index masks p ≡ 255
  full p small not = ap (λ (ms : List ℕ). slice_index ms p) is ∙ given p small not

  by_fit : (p : ℕ) → p < 16 → IsFitOf operation p (slice_index masks p) (slice_index fit p) → slice_index fit p ≡ slice_index masks p
  by_fit p small (inl h) = h.1
  by_fit p small (inr h) = h.1 ∙ sym (full p small h.0)

  at : (p : ℕ) → p < 16 → (p < n) ⊎ (n ≤ p) → slice_index fit p ≡ slice_index masks p
  at p small (inl less) = by_fit p small (so.before p less)
  at p small (inr from) = so.behind p from small ∙ sym (full p small (λ wanted. absurd (omega (arith, within_kinds operation p wanted, end, from))))

-- a mask in its place, and the others as they were
pub set_mask : (old masks : List ℕ) (p mask : ℕ) → masks ≡ old → p < length masks → (slice_index (slice_set masks p mask) p ≡ mask) × ((q : ℕ) → q ≢ p → slice_index (slice_set masks p mask) q ≡ slice_index old q)
set_mask old masks p mask is within = (get_or-set_same masks p mask 0 within, λ q other. get_or-set_other masks p q mask 0 other ∙ ap (λ (ms : List ℕ). slice_index ms q) is)

-- one page more is known
pub masks_grow : MasksGrow
masks_grow operation old new p k wanted more fit = λ q small. at q (fit q small) (cases_eq q p) where
  at : (q : ℕ) → IsWanted operation q ⊎ IsFull old q → (q ≡ p) ⊎ (q ≡ p → ⊥) → IsWanted operation q ⊎ IsFull new q
  at q (inl w) either = inl w
  at q (inr full) (inl is) = inl (subst (IsWanted operation) (sym is) wanted)
  at q (inr full) (inr differ) = inr (λ j few. ap (λ m. bit_at m j) (more.others q differ) ∙ full j few)
