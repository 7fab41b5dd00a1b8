-- Parts decoded one after the other.
use Rattle.std.proofs.Common.{◌≡◌, ℕ, zero, suc, ◌+◌, ◌<◌, ◌≤◌, ◌⊎◌, inl, inr, ⊎_elim, List, [], ◌∷◌, ◌++◌, Some, length, get_or, refl, sym, ap, subst, ◌∙◌, arith, length-append}
use Rattle.std.specs.Prelude.{slice_get}
use Rattle.std.proofs.Math.Logic.{⊎_map}
use Rattle.std.proofs.lemmas.Option.{slice_get-get_or, slice_get_within}
use Rattle.value_core.specs.declared.kind.Elem.TheVariants as elem
use Rattle.value_core.specs.Contents.{Contents, array}
use Rattle.decl_core.specs.declared.object.Operation.{Operation}
use Rattle.apply_core.specs.Fits.{HoldsReads}
use Rattle.page_core.specs.Given.{AreSpelled}
use Rattle.run_core.specs.Verdicts.{ReadAs, IsPart}

-- what stands in a longer list stood before, or is the last
in_longer : {X : Type 0} (xs : List X) (x y : X) (p : ℕ) → slice_get (xs ++ x ∷ []) p ≡ Some y → (slice_get xs p ≡ Some y) ⊎ ((p ≡ length xs) × (x ≡ y))
in_longer [] x y zero h = inr (refl, cc)
in_longer [] x y (suc p) h = absurd cc
in_longer (z ∷ xs) x y zero h = inl h
in_longer (z ∷ xs) x y (suc p) h = ⊎_map (λ k. k) (λ k. (ap suc k.0, k.1)) (in_longer xs x y p h)

-- these are the values of the first parts, so many
pub record Decoding (operation : Operation) (read : List (List ℕ)) (n : ℕ) (values : List Contents) : Type 0 where
  pub many : length values ≡ n
  pub each : (p : ℕ) (value : Contents) → slice_get values p ≡ Some value → IsPart operation read p value

module _ (operation : Operation) (read : List (List ℕ)) where
  pub start : Decoding operation read 0 []
  start = record { many = refl; each = λ p value h. absurd cc }

  pub next : (n : ℕ) (values : List Contents) (value : Contents) → Decoding operation read n values → IsPart operation read n value → Decoding operation read (n + 1) (values ++ value ∷ [])
  next n values value so one = record {
    many = omega (arith, so.many, length-append values (value ∷ []));
    each = λ p other h. ⊎_elim (so.each p other) (λ k. subst (IsPart operation read p) k.1 (subst (λ q. IsPart operation read q value) (sym so.many ∙ sym k.0) one)) (in_longer values value other p h);
  }

  -- all parts
  pub spelled : (n : ℕ) (values : List Contents) → length operation.kinds.items ≤ n → Decoding operation read n values → AreSpelled (ReadAs read) operation values
  spelled n values end so p kind named =
      let within : p < length values = omega (arith, slice_get_within operation.kinds.items p (Some kind) named.held, end, so.many) in
      let value : Contents = get_or values p (array elem.Integer []) in
      let there : slice_get values p ≡ Some value = slice_get-get_or values p (array elem.Integer []) within in
      let one = so.each p value there kind named in
      (one.0, one.1, (value, there, one.2))

  -- each part that is read holds a value of its kind
  pub holds : (values : List Contents) → AreSpelled (ReadAs read) operation values → HoldsReads operation values
  holds values is p kind named =
      let one = is p kind named in
      (one.2.0, one.2.1, one.2.2.kind)
