-- Gaps: one after another, and that at most one reaches a place where none begins.
use Rattle.std.proofs.Common.{◌≡◌, ℕ, ◌+◌, ◌<◌, ◌≤◌, List, slice_index, refl, sym, subst, inl, inr, ⊎_elim, arith}
use Rattle.std.proofs.str.Laws.{order}
use Rattle.path_tree.specs.Gap.{IsBlank, IsFirst, OpensComment, IsOpenComment, IsComment, IsGap, none, blank, comment}

pub blank_positive : (b : ℕ) → IsBlank b → 0 < b
blank_positive b (inl h) = omega arith
blank_positive b (inr (inl h)) = omega arith
blank_positive b (inr (inr (inl h))) = omega arith
blank_positive b (inr (inr (inr h))) = omega arith

pub blank_below : (b : ℕ) → IsBlank b → b ≤ 32
blank_below b (inl h) = omega arith
blank_below b (inr (inl h)) = omega arith
blank_below b (inr (inr (inl h))) = omega arith
blank_below b (inr (inr (inr h))) = omega arith

first_le : (P : ℕ → Type 0) (from a b : ℕ) → IsFirst P from a → IsFirst P from b → b ≤ a
first_le P from a b h k = ⊎_elim (λ before. absurd (k.2 a h.0 before h.1)) (λ w. w) (order a b)

pub one_first : (P : ℕ → Type 0) (from a b : ℕ) → IsFirst P from a → IsFirst P from b → a ≡ b
one_first P from a b h k = omega (arith, first_le P from a b h k, first_le P from b a k h)

module _ {source : List ℕ} where
  -- one gap after another
  pub gap_then : {from middle to : ℕ} → IsGap source from middle → IsGap source middle to → IsGap source from to
  gap_then none h = h
  gap_then (blank w g) h = blank w (gap_then g h)
  gap_then (comment w g) h = comment w (gap_then g h)

  pub gap_blank : {from at : ℕ} → IsGap source from at → IsBlank (slice_index source at) → IsGap source from (at + 1)
  gap_blank g w = gap_then g (blank w none)

  pub gap_comment : {from at to : ℕ} → IsGap source from at → IsComment source at to → IsGap source from to
  gap_comment g w = gap_then g (comment w none)

module _ (source : List ℕ) where
  pub comment_opens : (from to : ℕ) → IsComment source from to → OpensComment source from
  comment_opens from to (close, inl w) = inl w.0
  comment_opens from to (close, inr w) = inr w.0

  comment_le : (from to : ℕ) → IsComment source from to → from ≤ to
  comment_le from to (close, inl w) = omega (arith, w.1.0, w.2)
  comment_le from to (close, inr w) = omega (arith, w.1.0, w.2)

  pub gap_le : {from to : ℕ} → IsGap source from to → from ≤ to
  gap_le none = omega arith
  gap_le (blank w g) = omega (arith, gap_le g)
  gap_le (comment {from} {next} {to} w g) = omega (arith, comment_le from next w, gap_le g)

  blank_no_comment : (at : ℕ) → IsBlank (slice_index source at) → OpensComment source at → ⊥
  blank_no_comment at h (inl w) = absurd (omega (arith, blank_below (slice_index source at) h))
  blank_no_comment at h (inr w) = absurd (omega (arith, blank_below (slice_index source at) h, w.0))

  one_comment : (from a b : ℕ) → IsComment source from a → IsComment source from b → a ≡ b
  one_comment from a b (x, inl h) (y, inl k) = omega (arith, h.2, k.2, one_first _ (from + 1) x y h.1 k.1)
  one_comment from a b (x, inl h) (y, inr k) = absurd (omega (arith, h.0, k.0.0))
  one_comment from a b (x, inr h) (y, inl k) = absurd (omega (arith, h.0.0, k.0))
  one_comment from a b (x, inr h) (y, inr k) = omega (arith, h.2, k.2, one_first _ (from + 2) x y h.1 k.1)

  -- no gap of one byte or more begins there
  abbrev pub NoGap : ℕ → Type 0
  NoGap at = (to : ℕ) → IsGap source at to → to ≡ at

  pub no_gap : {at to : ℕ} → (IsBlank (slice_index source at) → ⊥) → (OpensComment source at → ⊥) → IsGap source at to → to ≡ at
  no_gap no_blank no_comment none = refl
  no_gap no_blank no_comment (blank w g) = absurd (no_blank w)
  no_gap no_blank no_comment (comment {from} {next} {to} w g) = absurd (no_comment (comment_opens from next w))

  pub open_opens : (at : ℕ) → IsOpenComment source at → OpensComment source at
  open_opens at (inl w) = inl w.0
  open_opens at (inr w) = inr w.0

  open_no_comment : (at to : ℕ) → IsOpenComment source at → IsComment source at to → ⊥
  open_no_comment at to (inl h) (close, inl w) = h.1 close w.1.0 w.1.1
  open_no_comment at to (inl h) (close, inr w) = absurd (omega (arith, h.0, w.0.0))
  open_no_comment at to (inr h) (close, inl w) = absurd (omega (arith, h.0.0, w.0))
  open_no_comment at to (inr h) (close, inr w) = h.1 close w.1.0 w.1.1

  pub open_no_gap : {at to : ℕ} → IsOpenComment source at → IsGap source at to → to ≡ at
  open_no_gap h none = refl
  open_no_gap h (blank {from} {to} w g) = absurd (blank_no_comment from w (open_opens from h))
  open_no_gap h (comment {from} {next} {to} w g) = absurd (open_no_comment from next h w)

  -- two gaps from one place end at one place, where none begins at their ends
  pub one_gap : {from a b : ℕ} → IsGap source from a → IsGap source from b → NoGap a → NoGap b → a ≡ b
  one_gap {from} {a} {b} none g no_a no_b = sym (no_a b g)
  one_gap {from} {a} {b} (blank w g) none no_a no_b = no_b a (blank w g)
  one_gap (blank w g) (blank v h) no_a no_b = one_gap g h no_a no_b
  one_gap {from} {a} {b} (blank w g) (comment {next = m} v h) no_a no_b = absurd (blank_no_comment from w (comment_opens from m v))
  one_gap {from} {a} {b} (comment w g) none no_a no_b = no_b a (comment w g)
  one_gap {from} {a} {b} (comment {next = n} w g) (blank v h) no_a no_b = absurd (blank_no_comment from v (comment_opens from n w))
  one_gap {from} {a} {b} (comment {next = n} w g) (comment {next = m} v h) no_a no_b = one_gap (subst (λ x. IsGap source x a) (one_comment from n m w v) g) h no_a no_b
