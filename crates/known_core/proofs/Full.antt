-- What is needed is there and not known; so where all pages are known nothing is.
use Rattle.std.proofs.Common.{◌≡◌, ℕ, zero, suc, ◌<◌, ◌≤◌, Bool, true, false, List, [], ◌∷◌, length, map, option_map, refl, sym, ap, ◌∙◌, subst, arith}
use Rattle.std.specs.Prelude.{Some, Err, slice_get, ◌==◌}
use Rattle.std.proofs.lemmas.List.{length-map}
use Rattle.std.proofs.lemmas.Option.{slice_get-get_or, slice_get-map}
use Rattle.value_core.specs.declared.datum.Datum.{Datum}
use Rattle.value_core.specs.declared.kind.Elem.{Elem}
use Rattle.value_core.specs.declared.kind.Elem.TheVariants as elem
use Rattle.value_core.specs.declared.kind.Kind.{Kind}
use Rattle.value_core.specs.declared.kind.Kind.TheVariants as kind
use Rattle.value_core.specs.Contents.{Contents, array, queue, table, kind_of, IsContents}
use Rattle.decl_core.specs.Form.{Body}
use Rattle.decl_core.specs.Meaning.{part_at, apply_body}
use Rattle.apply_core.specs.Pages.{page_of}
use Rattle.known_core.specs.Known.{Known, HasPlace, IsUnknown}
use Rattle.known_core.specs.Partly.{needs, partly_done}
use Rattle.known_core.specs.Laws.{Means}
use Rattle.known_core.specs.Masks.{known_by}
use Rattle.known_core.specs.Wanted.{IsFull, AreFull}
use Rattle.known_core.proofs.Courses.{one_meaning}

-- where each page is known, each element is
pub full_known : (masks : List ℕ) (p i : ℕ) → IsFull masks p → i < 1024 → known_by masks p i ≡ true
full_known masks p i full few = ap (λ b. b == 1) (full (page_of i) (omega (arith, few)))

pub known_or_not : (b : Bool) → b ≡ true → b ≡ false → ⊥
known_or_not b is not = cc

-- what is needed is there and not known
pub unknown_at : (known : Known) (body : Body) (args : List Datum) (parts : List Contents) (p i : ℕ) → partly_done known body args parts ≡ Err (needs p i) → IsUnknown known parts p i
unknown_at known body args parts p i is = subst (λ r. Means known r parts (apply_body body args parts)) is (one_meaning known body args parts)

pub place_within : (parts : List Contents) (p i : ℕ) → HasPlace (kind_of (part_at parts p)) i → p < length parts
place_within [] p i place = absurd (omega (arith, place))
place_within (v ∷ parts) zero i place = omega arith
place_within (v ∷ parts) (suc p) i place = omega (arith, place_within parts p i place)

pub needs_within : (known : Known) (body : Body) (args : List Datum) (parts : List Contents) (p i : ℕ) → partly_done known body args parts ≡ Err (needs p i) → p < length parts
needs_within known body args parts p i is = place_within parts p i (unknown_at known body args parts p i is).place

-- a part of lists of the same kinds
pub at_kind : (one other : List Contents) (p : ℕ) → map kind_of one ≡ map kind_of other → p < length other → kind_of (part_at one p) ≡ kind_of (part_at other p)
at_kind one other p same less =
    let many : length one ≡ length other = sym (length-map one kind_of) ∙ ap length same ∙ length-map other kind_of in
    let a : slice_get (map kind_of one) p ≡ Some (kind_of (part_at one p)) = slice_get-map kind_of one p ∙ ap (λ o. option_map kind_of o) (slice_get-get_or one p (array elem.Integer []) (omega (arith, less, many))) in
    let b : slice_get (map kind_of other) p ≡ Some (kind_of (part_at other p)) = slice_get-map kind_of other p ∙ ap (λ o. option_map kind_of o) (slice_get-get_or other p (array elem.Integer []) less) in
    same_one _ _ (sym a ∙ ap (λ (ks : List Kind). slice_get ks p) same ∙ b) where
      same_one : (x y : Kind) → Some x ≡ Some y → x ≡ y
      same_one x y is = cc

-- a value with a place for an element is an array of at most 1,024
pub of_contents : (v : Contents) (i : ℕ) → IsContents v → HasPlace (kind_of v) i → (n : ℕ) × (e : Elem) × (kind_of v ≡ kind.Array n e) × (n ≤ 1024)
of_contents (array e xs) i is place = (length xs, e, refl, is.few)
of_contents (queue e xs) i is place = absurd place
of_contents (table e m) i is place = absurd place

-- where all pages are known, nothing is needed
pub none_needed : (masks : List ℕ) (body : Body) (args : List Datum) (parts after : List Contents) (p i : ℕ) → AreFull masks → partly_done (known_by masks) body args parts ≡ Err (needs p i) → map kind_of after ≡ map kind_of parts → p < 16 → IsContents (part_at after p) → ⊥
none_needed masks body args parts after p i full is kinds small contents =
    let unknown = unknown_at (known_by masks) body args parts p i is in
    let within = place_within parts p i unknown.place in
    let k : kind_of (part_at after p) ≡ kind_of (part_at parts p) = at_kind after parts p kinds within in
    let place : HasPlace (kind_of (part_at after p)) i = subst (λ l. HasPlace l i) (sym k) unknown.place in
    let a = of_contents (part_at after p) i contents place in
    let less : i < a.0 = subst (λ l. HasPlace l i) a.2 place in
    known_or_not (known_by masks p i) (full_known masks p i (full p small) (omega (arith, less, a.3))) unknown.unknown
