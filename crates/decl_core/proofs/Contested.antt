-- The bits of the parts at which two operations conflict.
use Rattle.std.proofs.Common.{◌≡◌, ℕ, ◌<◌, ◌≤◌, ◌⊎◌, inl, inr, bit_and, bit_or, arith}
use Rattle.std.specs.Prelude.{◌↔◌}
use Rattle.std.specs.Int.{bit_at}
use Rattle.std.proofs.lemmas.Bool.{cases_eq, cases_lt}
use Rattle.std.proofs.lemmas.Nat.Bits.{bit_at_and, bit_at_or}

pub bit_of_both : (a b p : ℕ) → (bit_at (bit_and a b) p ≡ 1) ↔ ((bit_at a p ≡ 1) × (bit_at b p ≡ 1))
bit_of_both a b p = (λ h. (omega (arith, bit_at_and a b p), omega (arith, bit_at_and a b p)), λ h. omega (arith, bit_at_and a b p))

bit_of_one : (a b p : ℕ) → bit_at (bit_or a b) p ≡ 1 → (bit_at a p ≡ 1) ⊎ (bit_at b p ≡ 1)
bit_of_one a b p h = elim (cases_eq (bit_at a p) 1) [
  | inl set ↦ inl set
  | inr clear ↦ inr (omega (arith, bit_at_or a b p))
]

bit_from_one : (a b p : ℕ) → (bit_at a p ≡ 1) ⊎ (bit_at b p ≡ 1) → bit_at (bit_or a b) p ≡ 1
bit_from_one a b p (inl h) = omega (arith, bit_at_or a b p)
bit_from_one a b p (inr h) = omega (arith, bit_at_or a b p)

pub bit_of_either : (a b p : ℕ) → (bit_at (bit_or a b) p ≡ 1) ↔ ((bit_at a p ≡ 1) ⊎ (bit_at b p ≡ 1))
bit_of_either a b p = (bit_of_one a b p, bit_from_one a b p)

-- the one half: what the one writes and the other one touches
touched : (w r v p : ℕ) → (bit_at (bit_and w (bit_or r v)) p ≡ 1) ↔ ((bit_at w p ≡ 1) × ((bit_at r p ≡ 1) ⊎ (bit_at v p ≡ 1)))
touched w r v p =
    let both = bit_of_both w (bit_or r v) p in
    let either = bit_of_either r v p in
    (λ h. let k = both.0 h in (k.0, either.0 k.1), λ h. both.1 (h.0, either.1 h.1))

-- both halves
pub contested_bits : (r w s v p : ℕ) → (bit_at (bit_or (bit_and w (bit_or s v)) (bit_and v (bit_or r w))) p ≡ 1)
    ↔ (((bit_at w p ≡ 1) × ((bit_at s p ≡ 1) ⊎ (bit_at v p ≡ 1))) ⊎ ((bit_at v p ≡ 1) × ((bit_at r p ≡ 1) ⊎ (bit_at w p ≡ 1))))
contested_bits r w s v p =
    let either = bit_of_either (bit_and w (bit_or s v)) (bit_and v (bit_or r w)) p in (
      λ h. elim (either.0 h) [
        | inl one ↦ inl ((touched w s v p).0 one)
        | inr other ↦ inr ((touched v r w p).0 other)
      ],
      λ h. elim h [
        | inl one ↦ either.1 (inl ((touched w s v p).1 one))
        | inr other ↦ either.1 (inr ((touched v r w p).1 other))
      ],
    )

-- a place below which no bit is set is not after a set bit
pub not_after : (n t q : ℕ) → ((i : ℕ) → i < t → bit_at n i ≡ 0) → bit_at n q ≡ 1 → t ≤ q
not_after n t q below set = elim (cases_lt q t) [
  | inl early ↦ omega (arith, below q early)
  | inr late ↦ late
]
