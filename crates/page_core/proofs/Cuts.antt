-- The lengths of the pages of a cut.
use Rattle.std.proofs.lemmas.Bool.{cases_lt}
use Rattle.std.proofs.Common.{◌≡◌, ◌≢◌, ℕ, zero, suc, ◌+◌, ◌*◌, ◌<◌, ◌≤◌, ◌↔◌, inl, inr, List, [], ◌∷◌, length, refl, sym, ◌∙◌, subst, arith}
use Rattle.page_core.specs.Cut.{most_pages, page_sizes, IsFirstFor, IsPageSize, together, AreFull, AreCutLengths}

-- so many bytes have one page size
one_first : (count : ℕ) (sizes : List ℕ) (s t : ℕ) → IsFirstFor count sizes s → IsFirstFor count sizes t → s ≡ t
one_first count [] s t is also = absurd is
one_first count (first ∷ more) s t (inl is) (inl also) = is.1 ∙ sym also.1
one_first count (first ∷ more) s t (inl is) (inr also) = absurd (omega (arith, is.0, also.0))
one_first count (first ∷ more) s t (inr is) (inl also) = absurd (omega (arith, is.0, also.0))
one_first count (first ∷ more) s t (inr is) (inr also) = one_first count more s t is.1 also.1

pub one_size : (count s t : ℕ) → IsPageSize count s → IsPageSize count t → s ≡ t
one_size count s t is also = one_first count page_sizes s t is also

-- 8 pages of this size hold as many bytes
holds_first : (count : ℕ) (sizes : List ℕ) (s : ℕ) → IsFirstFor count sizes s → count ≤ most_pages * s
holds_first count [] s is = absurd is
holds_first count (first ∷ more) s (inl is) = subst (λ x. count ≤ most_pages * x) (sym is.1) is.0
holds_first count (first ∷ more) s (inr is) = holds_first count more s is.1

pub holds : (count s : ℕ) → IsPageSize count s → count ≤ most_pages * s
holds count s is = holds_first count page_sizes s is

-- where a page of this size can be cut, the bytes are a cut exactly where all pages but the last are full
pub is_cut_by : (count size : ℕ) (lens : List ℕ) → count ≢ 0 → count ≡ together lens → IsPageSize count size → AreFull size lens ↔ AreCutLengths lens
is_cut_by count size lens some is least = (to, from) where
  to : AreFull size lens → AreCutLengths lens
  to full = record { some = omega (arith, some, is); size = size; least = subst (λ n. IsPageSize n size) is least; full = full }

  from : AreCutLengths lens → AreFull size lens
  from cut = subst (λ s. AreFull s lens) (one_size count cut.size size (subst (λ n. IsPageSize n cut.size) (sym is) cut.least) least) cut.full

-- where there is none, the bytes are no cut
pub no_cut_by : (count : ℕ) (lens : List ℕ) → count ≡ together lens → ((size : ℕ) → IsPageSize count size → ⊥) → AreCutLengths lens → ⊥
no_cut_by count lens is none cut = none cut.size (subst (λ n. IsPageSize n cut.size) (sym is) cut.least)

-- so many times as many
abbrev times : ℕ → ℕ → ℕ
times zero size = 0
times (suc n) size = size + times n size

-- behind so many full pages stands a byte at least
above : (n size : ℕ) (lens : List ℕ) → AreFull size lens → n < length lens → times n size < together lens
above n size [] full less = absurd (omega (arith, less))
above zero size (len ∷ []) full less = omega (arith, full.0.0)
above zero size (len ∷ next ∷ more) full less = omega (arith, above zero size (next ∷ more) full.1 (omega arith))
above (suc n) size (len ∷ []) full less = absurd (omega (arith, less))
above (suc n) size (len ∷ next ∷ more) full less = omega (arith, full.0, above n size (next ∷ more) full.1 (omega (arith, less)))

-- a cut has at most 8 pages
pub few : (lens : List ℕ) → AreCutLengths lens → length lens ≤ 8
few lens cut = elim (cases_lt 8 (length lens)) [
  | inl lt ↦ absurd (omega (arith, eight, above 8 cut.size lens cut.full lt, holds (together lens) cut.size cut.least))
  | inr le ↦ le
] where
  eight : times 8 cut.size ≡ cut.size + (cut.size + (cut.size + (cut.size + (cut.size + (cut.size + (cut.size + (cut.size + 0)))))))
  eight = refl
