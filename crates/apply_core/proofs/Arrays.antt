-- What the operations on an array do to its bytes.
use Rattle.std.proofs.Common.{◌≡◌, ℕ, zero, suc, ◌<◌, ◌≤◌, List, [], ◌∷◌, ◌++◌, Some, None, length, drop, Ok, Err, IsOk, refl, sym, ap, ◌∙◌, subst, append_assoc, arith, length-append}
use Rattle.std.specs.Prelude.{All, if◌then◌else◌, slice_get, slice_set, ok_or}
use Rattle.std.specs.List.{flat_map}
use Rattle.std.proofs.lemmas.List.Elements.{All-cons}
use Rattle.std.proofs.lemmas.Grind.{flat_map-append}
use Rattle.value_core.specs.declared.datum.Datum.{Datum}
use Rattle.value_core.specs.declared.kind.Elem.{Elem}
use Rattle.value_core.specs.declared.kind.Kind.TheVariants as kind
use Rattle.value_core.specs.declared.refusal.Refusal.TheVariants.{Index}
use Rattle.value_core.specs.Datum.{IsElement}
use Rattle.value_core.specs.Contents.{Contents, array}
use Rattle.value_core.specs.Meaning.{element_at, with_element}
use Rattle.value_bytes.specs.Spelling.{spelled_datum, header, Spells}
use Rattle.value_core.proofs.TableRows.{head, tail}
use Rattle.apply_core.specs.Remade.{SpellNew}
use Rattle.apply_core.proofs.Shapes.{ArrayIn, array_in, array_spells, is_less, not_less, ok_of}
use Rattle.apply_core.proofs.Queues.{IsOpened}

-- a list around one of its places
pub record Around {X : Type 0} (xs : List X) (i : ℕ) : Type 0 where
  pub before : List X
  pub x : X
  pub later : List X
  pub parts : xs ≡ before ++ x ∷ later
  pub rest : drop i xs ≡ x ∷ later
  pub got : slice_get xs i ≡ Some x
  pub put : (y : X) → slice_set xs i y ≡ before ++ y ∷ later

pub around : {X : Type 0} (xs : List X) (i : ℕ) → i < length xs → Around xs i
around [] i less = absurd (omega (arith, less))
around (x ∷ xs) zero less = record { before = []; x = x; later = xs; parts = refl; rest = refl; got = refl; put = λ y. refl }
around {X} (x ∷ xs) (suc i) less =
    let so = around xs i (omega (arith, less)) in
    record {
      before = x ∷ so.before;
      x = so.x;
      later = so.later;
      parts = ap (λ (l : List X). x ∷ l) so.parts;
      rest = so.rest;
      got = so.got;
      put = λ y. ap (λ (l : List X). x ∷ l) (so.put y);
    }

each_behind : {X : Type 0} (P : X → Type 0) (xs ys : List X) → All P (xs ++ ys) → All P ys
each_behind P [] ys each = each
each_behind P (x ∷ xs) ys each = each_behind P xs ys (tail P x (xs ++ ys) each)

each_put : {X : Type 0} (P : X → Type 0) (xs ys : List X) (x y : X) → All P (xs ++ x ∷ ys) → P y → All P (xs ++ y ∷ ys)
each_put P [] ys x y each is = All-cons P y ys is (tail P x ys each)
each_put P (z ∷ xs) ys x y each is = All-cons P z (xs ++ y ∷ ys) (head P z (xs ++ x ∷ ys) each) (each_put P xs ys x y (tail P z (xs ++ x ∷ ys) each) is)

module _ (bytes entries : List ℕ) (e : Elem) (count i : ℕ) (n : ℕ) (v : Contents) (is : Spells bytes (kind.Array n e) v) (opened : IsOpened bytes count entries v) where
  long : (a : ArrayIn bytes n e v) → count ≡ length a.xs
  long a = opened.0 ∙ a.count

  pub none_at : count ≤ i → element_at v i ≡ Err Index
  none_at past =
      let a = array_in bytes n e v is in
      ap (λ w. element_at w i) a.is ∙ ap (λ o. ok_or o Index) (nothing a.xs i (omega (arith, past, long a)))
    where
      nothing : (xs : List Datum) (i : ℕ) → length xs ≤ i → slice_get xs i ≡ None
      nothing [] i past = refl
      nothing (x ∷ xs) zero past = absurd (omega (arith, past))
      nothing (x ∷ xs) (suc i) past = nothing xs i (omega (arith, past))

  pub none_put : (d : Datum) → count ≤ i → with_element v i d ≡ Err Index
  none_put d past =
      let a = array_in bytes n e v is in
      ap (λ w. with_element w i d) a.is ∙ ap (λ b. if b then ok_of (array e (slice_set a.xs i d)) else Err Index) (not_less i (length a.xs) (omega (arith, past, long a)))

  -- what is behind so many elements begins with the one at the index
  module _ (inside : i < count) (rest : List ℕ) (passed : (xs : List Datum) → All (IsElement e) xs → entries ≡ flat_map spelled_datum xs → i ≤ length xs → rest ≡ flat_map spelled_datum (drop i xs)) where
    at : (a : ArrayIn bytes n e v) → Around a.xs i
    at a = around a.xs i (omega (arith, inside, long a))

    stands : (a : ArrayIn bytes n e v) → rest ≡ spelled_datum (at a).x ++ flat_map spelled_datum (at a).later
    stands a = passed a.xs a.each (opened.1 ∙ a.behind) (omega (arith, inside, long a)) ∙ ap (λ (l : List Datum). flat_map spelled_datum l) (at a).rest

    each_at : (a : ArrayIn bytes n e v) → All (IsElement e) ((at a).before ++ (at a).x ∷ (at a).later)
    each_at a = subst (All (IsElement e)) (at a).parts a.each

    element_is : (a : ArrayIn bytes n e v) → IsElement e (at a).x
    element_is a = head (IsElement e) (at a).x (at a).later (each_behind (IsElement e) (at a).before ((at a).x ∷ (at a).later) (each_at a))

    pub element_there : (d : Datum) → ((x : Datum) (r : List ℕ) → IsElement e x → rest ≡ spelled_datum x ++ r → d ≡ x) → ok_of d ≡ element_at v i
    element_there d read =
        let a = array_in bytes n e v is in
        ap (λ (y : Datum). ok_of y) (read (at a).x (flat_map spelled_datum (at a).later) (element_is a) (stands a)) ∙ sym (ap (λ w. element_at w i) a.is ∙ ap (λ o. ok_or o Index) (at a).got)

    pub some_there : ((x : Datum) (r : List ℕ) → IsElement e x → rest ≡ spelled_datum x ++ r → ⊥) → ⊥
    some_there none =
        let a = array_in bytes n e v is in
        none (at a).x (flat_map spelled_datum (at a).later) (element_is a) (stands a)

    put_value : (a : ArrayIn bytes n e v) (d : Datum) → with_element v i d ≡ Ok (array e (slice_set a.xs i d))
    put_value a d = ap (λ w. with_element w i d) a.is ∙ ap (λ b. if b then ok_of (array e (slice_set a.xs i d)) else Err Index) (is_less i (length a.xs) (omega (arith, inside, long a)))

    pub put_ok : (d : Datum) → IsOk (with_element v i d)
    put_ok d = let a = array_in bytes n e v is in subst IsOk (sym (put_value a d)) refl

    pub put_there : (front next out : List ℕ) (d : Datum) → IsElement e d → ((f : List ℕ) → entries ≡ f ++ rest → front ≡ f) → ((x : Datum) (r : List ℕ) → IsElement e x → rest ≡ spelled_datum x ++ r → next ≡ r)
        → out ≡ ((header (kind.Array count e) count ++ front) ++ spelled_datum d) ++ next → SpellNew (kind.Array n e) out (with_element v i d)
    put_there front next out d element before skipped made =
        let a = array_in bytes n e v is in
        let so = at a in
        let xs : List Datum = so.before ++ d ∷ so.later in
        let was : flat_map spelled_datum a.xs ≡ flat_map spelled_datum so.before ++ rest = ap (λ (l : List Datum). flat_map spelled_datum l) so.parts ∙ flat_map-append spelled_datum so.before (so.x ∷ so.later) ∙ ap (λ (r : List ℕ). flat_map spelled_datum so.before ++ r) (sym (stands a)) in
        let front_is : front ≡ flat_map spelled_datum so.before = before (flat_map spelled_datum so.before) (opened.1 ∙ a.behind ∙ was) in
        let next_is : next ≡ flat_map spelled_datum so.later = skipped so.x (flat_map spelled_datum so.later) (element_is a) (stands a) in
        let same : length xs ≡ length a.xs = omega (arith, length-append so.before (d ∷ so.later), length-append so.before (so.x ∷ so.later), ap length so.parts) in
        let count_is : count ≡ n = long a ∙ a.long in (
          array e xs,
          put_value a d ∙ ap (λ (l : List Datum). ok_of (array e l)) (so.put d),
          array_spells out n e xs (each_put (IsElement e) so.before so.later so.x d (each_at a) element) (omega (arith, same, a.few)) (same ∙ a.long)
              (made ∙ put_together (header (kind.Array count e) count) front next so.before so.later d front_is next_is ∙ ap (λ c. header (kind.Array c e) c ++ flat_map spelled_datum xs) count_is),
        )
      where
        put_together : (head front next : List ℕ) (before later : List Datum) (d : Datum) → front ≡ flat_map spelled_datum before → next ≡ flat_map spelled_datum later
            → ((head ++ front) ++ spelled_datum d) ++ next ≡ head ++ flat_map spelled_datum (before ++ d ∷ later)
        put_together head front next before later d f n =
            append_assoc (head ++ front) (spelled_datum d) next ∙ append_assoc head front (spelled_datum d ++ next)
            ∙ (λ i. head ++ (f i ++ (spelled_datum d ++ n i))) ∙ ap (λ (r : List ℕ). head ++ r) (sym (flat_map-append spelled_datum before (d ∷ later)))
