-- Elements that are read one after another.
use Rattle.std.proofs.Common.{◌≡◌, ◌≢◌, ℕ, ◌+◌, ◌<◌, List, [], ◌∷◌, ◌++◌, length, refl, sym, ap, ◌∙◌, append_assoc, arith, length-append}
use Rattle.std.specs.Prelude.{All, map}
use Rattle.std.specs.Int.{w32, to_be_bytes}
use Rattle.std.specs.List.{flat_map}
use Rattle.std.proofs.lemmas.List.{append-nil}
use Rattle.std.proofs.lemmas.Grind.{flat_map-append}
use Rattle.std.proofs.lemmas.List.Elements.{All-append, All-cons, All-nil}
use Rattle.value_core.specs.declared.format.Format.{Format}
use Rattle.value_core.specs.declared.datum.Datum.{Datum}
use Rattle.value_core.specs.declared.datum.Datum.TheVariants as datum
use Rattle.value_core.specs.declared.kind.Elem.{Elem}
use Rattle.value_core.specs.declared.kind.Elem.TheVariants as elem
use Rattle.value_core.specs.Format.{IsTextIn}
use Rattle.value_core.specs.Datum.{IsElementIn}
use Rattle.value_bytes.specs.Spelling.{spelled_text_in, spelled_datum_in, SpellElements}
use Rattle.value_bytes.proofs.Apart.{datum_apart, same_elements, next_element}

-- one element more has been read
pub read_more : {X : Type 0} (spell : X → List ℕ) (bytes rest behind : List ℕ) (xs : List X) (x : X) → bytes ≡ flat_map spell xs ++ rest → rest ≡ spell x ++ behind → bytes ≡ flat_map spell (xs ++ x ∷ []) ++ behind
read_more spell bytes rest behind xs x parts front =
    let one : flat_map spell (x ∷ []) ≡ spell x = append-nil (spell x) in
    parts ∙ ap (λ (r : List ℕ). flat_map spell xs ++ r) front ∙ sym (append_assoc (flat_map spell xs) (spell x) behind)
    ∙ ap (λ (r : List ℕ). (flat_map spell xs ++ r) ++ behind) (sym one) ∙ ap (λ (r : List ℕ). r ++ behind) (sym (flat_map-append spell xs (x ∷ [])))

pub All-push : {X : Type 0} (P : X → Type 0) (xs : List X) (x : X) → All P xs → P x → All P (xs ++ x ∷ [])
All-push P xs x each is = All-append P xs (x ∷ []) each (All-cons P x [] is (All-nil P))

pub length-push : {X : Type 0} (xs : List X) (x : X) (n : ℕ) → length xs ≡ n → length (xs ++ x ∷ []) ≡ n + 1
length-push xs x n is = omega (arith, length-append xs (x ∷ []), is)

module _ (f : Format) where
  -- where no element stands next, there are not so many
  pub no_next : (bytes rest : List ℕ) (e : Elem) (count : ℕ) (xs : List Datum) → All (IsElementIn f e) xs → length xs < count → bytes ≡ flat_map (spelled_datum_in f) xs ++ rest
      → ((d : Datum) (r : List ℕ) → IsElementIn f e d → rest ≢ spelled_datum_in f d ++ r) → (ys : List Datum) → SpellElements f bytes e count ys → ⊥
  no_next bytes rest e count xs each less parts none ys is =
      let next = next_element (spelled_datum_in f) (IsElementIn f e) (datum_apart f e) xs ys rest each is.each (omega (arith, less, is.many)) (sym is.spelled ∙ parts) in
      none next.0 (flat_map (spelled_datum_in f) next.1) next.2 next.4

  -- where bytes are left behind them, there are not so many
  pub no_more : (bytes rest : List ℕ) (e : Elem) (count : ℕ) (xs : List Datum) → All (IsElementIn f e) xs → length xs ≡ count → bytes ≡ flat_map (spelled_datum_in f) xs ++ rest
      → (rest ≡ [] → ⊥) → (ys : List Datum) → SpellElements f bytes e count ys → ⊥
  no_more bytes rest e count xs each same parts some ys is =
      some (same_elements (spelled_datum_in f) (IsElementIn f e) (datum_apart f e) xs ys rest each is.each (same ∙ sym is.many) (sym is.spelled ∙ parts)).1

integer_sort : elem.Text ≡ elem.Integer → ⊥
integer_sort is = cc

-- where no four bytes stand next, no integer does
pub no_integer : (f : Format) (rest : List ℕ) → ((n : ℕ) (r : List ℕ) → rest ≢ to_be_bytes w32 n ++ r) → (d : Datum) (r : List ℕ) → IsElementIn f elem.Integer d → rest ≢ spelled_datum_in f d ++ r
no_integer f rest none (datum.Integer n) r is = none n r
no_integer f rest none (datum.Text t) r is = absurd (integer_sort is.sort)

-- where no text stands next, none does as a datum
pub no_text : (f : Format) (rest : List ℕ) → ((text r : List ℕ) → IsTextIn f text → rest ≢ spelled_text_in f text ++ r) → (d : Datum) (r : List ℕ) → IsElementIn f elem.Text d → rest ≢ spelled_datum_in f d ++ r
no_text f rest none (datum.Integer n) r is = absurd (integer_sort (sym is.sort))
no_text f rest none (datum.Text t) r is = none t r is.datum

pub map-push : {X Y : Type 0} (make : X → Y) (xs : List X) (x : X) → map make (xs ++ x ∷ []) ≡ map make xs ++ make x ∷ []
map-push make [] x = refl
map-push make (y ∷ ys) x = ap (λ zs. make y ∷ zs) (map-push make ys x)
