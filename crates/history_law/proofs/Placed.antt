-- Each of some names is the first of its bytes.
use Rattle.std.proofs.Common.{◌≡◌, ◌⊎◌, inl, inr, ℕ, zero, suc, ◌<◌, Bool, true, false, List, [], ◌∷◌, ◌++◌, Option, Some, None, length, refl, sym, ap, ◌∙◌, arith}
use Rattle.std.specs.Prelude.{bytes_eq, if◌then◌else◌, slice_index_or, ◌||◌}
use Rattle.std.proofs.lemmas.Slice.Eq.{bytes_eq-Decides}
use Rattle.path_tree.specs.Known.{place_of, next}
use Rattle.token_read.specs.Names.{is_among}

-- each name is the first of its bytes
abbrev pub AreFirst : List (List ℕ) → Type 0
AreFirst names = (place : ℕ) → place < length names → place_of names (slice_index_or names place []) ≡ Some place

some_in : (b : Bool) (first rest : Option ℕ) (k : ℕ) → (if b then Some 0 else next first) ≡ Some k → ((m : ℕ) → first ≡ Some m → rest ≡ Some m) →
    (if b then Some 0 else next rest) ≡ Some k
some_in true first rest k is on = is
some_in false (Some m) rest k is on = ap next (on m refl) ∙ is
some_in false None rest k is on = absurd cc

-- a name has its place among more
found_more : (names : List (List ℕ)) (own bytes : List ℕ) (k : ℕ) → place_of names bytes ≡ Some k → place_of (names ++ own ∷ []) bytes ≡ Some k
found_more [] own bytes k is = absurd cc
found_more (x ∷ names) own bytes k is =
    some_in (bytes_eq x bytes) (place_of names bytes) (place_of (names ++ own ∷ []) bytes) k is (λ m there. found_more names own bytes m there)

neither : (a b : Bool) → (a || b) ≡ false → (a ≡ false) × (b ≡ false)
neither true b is = absurd cc
neither false b is = (refl, is)

-- one that is not among them is the last
found_last : (names : List (List ℕ)) (own : List ℕ) → is_among names own ≡ false → place_of (names ++ own ∷ []) own ≡ Some (length names)
found_last [] own new = ap (λ (b : Bool). if b then Some 0 else next None) ((bytes_eq-Decides own own).1 refl)
found_last (x ∷ names) own new =
    let apart = neither (bytes_eq x own) (is_among names own) new in
    ap (λ (b : Bool). if b then Some 0 else next (place_of (names ++ own ∷ []) own)) apart.0 ∙ ap next (found_last names own apart.1)

at_less : (names : List (List ℕ)) (own : List ℕ) (place : ℕ) → place < length names → slice_index_or (names ++ own ∷ []) place [] ≡ slice_index_or names place []
at_less [] own place within = absurd (omega (arith, within))
at_less (x ∷ names) own zero within = refl
at_less (x ∷ names) own (suc place) within = at_less names own place (omega (arith, within))

at_last : (names : List (List ℕ)) (own : List ℕ) → slice_index_or (names ++ own ∷ []) (length names) [] ≡ own
at_last [] own = refl
at_last (x ∷ names) own = at_last names own

long : (names : List (List ℕ)) (own : List ℕ) → length (names ++ own ∷ []) ≡ suc (length names)
long [] own = refl
long (x ∷ names) own = ap suc (long names own)

-- the place is one of those before, or the last
abbrev Where : ℕ → ℕ → Type 0
Where place count = (place < count) ⊎ (place ≡ count)

where_is : (place count : ℕ) → place < suc count → Where place count
where_is zero zero within = inr refl
where_is zero (suc count) within = inl (omega arith)
where_is (suc place) zero within = absurd (omega (arith, within))
where_is (suc place) (suc count) within = more (where_is place count (omega (arith, within)))
  where
    more : Where place count → Where (suc place) (suc count)
    more (inl less) = inl (omega (arith, less))
    more (inr same) = inr (ap suc same)

-- one more that is not among them
pub first_push : (names : List (List ℕ)) (own : List ℕ) → AreFirst names → is_among names own ≡ false → AreFirst (names ++ own ∷ [])
first_push names own first new place within = by (where_is place (length names) (omega (arith, within, long names own)))
  where
    by : Where place (length names) → place_of (names ++ own ∷ []) (slice_index_or (names ++ own ∷ []) place []) ≡ Some place
    by (inl less) = ap (place_of (names ++ own ∷ [])) (at_less names own place less)
        ∙ found_more names own (slice_index_or names place []) place (first place less)
    by (inr same) =
        ap (λ n. place_of (names ++ own ∷ []) (slice_index_or (names ++ own ∷ []) n [])) same ∙ ap (place_of (names ++ own ∷ [])) (at_last names own)
        ∙ found_last names own new ∙ ap (λ (n : ℕ). Some n) (sym same)
