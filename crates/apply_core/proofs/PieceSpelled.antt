-- Arrays of integers, as bytes.
use Rattle.std.proofs.Common.{◌≡◌, ℕ, zero, suc, ◌+◌, ◌-◌, ◌*◌, ◌/◌, ◌%◌, ◌<◌, ◌≤◌, ◌^◌, ◌⊎◌, min, List, [], ◌∷◌, ◌++◌, length, take, drop, Some, get_or, refl, sym, ap, ◌∙◌, subst, inl, inr, arith, length-append, length-take, length-drop}
use Rattle.std.specs.Prelude.{All, slice_get}
use Rattle.std.specs.List.{flat_map}
use Rattle.std.specs.Int.{w32, to_be_bytes, from_be_bytes}
use Rattle.std.proofs.lemmas.Nat.{be_bytes_4, from_be_bytes-to_be_bytes_4}
use Rattle.std.proofs.lemmas.Bool.{cases_lt}
use Rattle.std.proofs.lemmas.List.{take-append-drop, get_or-take, get_or-drop, ext_get_or}
use Rattle.std.proofs.Math.ListN.{get_or-append}
use Rattle.std.proofs.lemmas.Option.{slice_get_past, slice_get-get_or}
use Rattle.std.proofs.lemmas.List.Elements.{All-cons, All-nil, All-get_or}
use Rattle.value_core.specs.declared.format.Format.TheVariants.{Second}
use Rattle.value_core.specs.declared.datum.Datum.{Datum}
use Rattle.value_core.specs.declared.datum.Datum.TheVariants as datum
use Rattle.value_core.specs.declared.kind.Elem.{Elem}
use Rattle.value_core.specs.declared.kind.Elem.TheVariants as elem
use Rattle.value_core.specs.declared.kind.Kind.TheVariants as kind
use Rattle.value_core.specs.Limits.{most_elements}
use Rattle.value_core.specs.Datum.{IsElement}
use Rattle.value_core.specs.Contents.{array, queue, table, IsContents}
use Rattle.value_bytes.specs.Spelling.{spelled_datum, header, spelling, Spells}
use Rattle.value_bytes.specs.Laws.{AreBytes}
use Rattle.value_core.proofs.TableRows.{head, tail}
use Rattle.value_bytes.proofs.Apart.{other_sort}
use Rattle.value_bytes.proofs.Unique.{stand_in_place}
use Rattle.apply_core.specs.Pages.{HasFrame, page_at, page_of}
use Rattle.apply_core.specs.Laws.{AllBytesSpell, FrameIsDue, PagesTell}

behind : (b : ℕ) (bytes : List ℕ) → AreBytes (b ∷ bytes) → AreBytes bytes
behind b bytes are i = are (suc i)

-- four bytes are an integer
four : (a b c d : ℕ) → a < 256 → b < 256 → c < 256 → d < 256 → from_be_bytes w32 (a ∷ b ∷ c ∷ d ∷ []) < 2 ^ 32
four a b c d la lb lc ld = omega (arith, la, lb, lc, ld)

four_bytes : (a b c d : ℕ) → a < 256 → b < 256 → c < 256 → d < 256 → (i : ℕ) → get_or (a ∷ b ∷ c ∷ d ∷ []) i 0 < 256
four_bytes a b c d la lb lc ld zero = la
four_bytes a b c d la lb lc ld (suc zero) = lb
four_bytes a b c d la lb lc ld (suc (suc zero)) = lc
four_bytes a b c d la lb lc ld (suc (suc (suc zero))) = ld
four_bytes a b c d la lb lc ld (suc (suc (suc (suc i)))) = omega arith

-- these bytes are integers, one after another
record AreIntegers (n : ℕ) (bytes : List ℕ) : Type 0 where
  xs : List Datum
  each : All (IsElement elem.Integer) xs
  many : length xs ≡ n
  spelled : bytes ≡ flat_map spelled_datum xs

integers : (n : ℕ) (bytes : List ℕ) → AreBytes bytes → length bytes ≡ 4 * n → AreIntegers n bytes
integers zero [] are long = record { xs = []; each = All-nil (IsElement elem.Integer); many = refl; spelled = refl }
integers zero (b ∷ bytes) are long = absurd (omega (arith, long))
integers (suc n) [] are long = absurd (omega (arith, long))
integers (suc n) (a ∷ []) are long = absurd (omega (arith, long))
integers (suc n) (a ∷ b ∷ []) are long = absurd (omega (arith, long))
integers (suc n) (a ∷ b ∷ c ∷ []) are long = absurd (omega (arith, long))
integers (suc n) (a ∷ b ∷ c ∷ d ∷ bytes) are long =
    let rest = integers n bytes (λ i. are (suc (suc (suc (suc i))))) (omega (arith, long)) in
    let x : ℕ = from_be_bytes w32 (a ∷ b ∷ c ∷ d ∷ []) in
    let small : x < 2 ^ 32 = four a b c d (are 0) (are 1) (are 2) (are 3) in
    let back : to_be_bytes w32 x ≡ a ∷ b ∷ c ∷ d ∷ [] = be_bytes_4 (a ∷ b ∷ c ∷ d ∷ []) x refl (four_bytes a b c d (are 0) (are 1) (are 2) (are 3)) refl in
    record {
      xs = datum.Integer x ∷ rest.xs;
      each = All-cons (IsElement elem.Integer) (datum.Integer x) rest.xs (record { sort = refl; datum = small }) rest.each;
      many = ap suc rest.many;
      spelled = ap (λ (r : List ℕ). a ∷ b ∷ c ∷ d ∷ r) rest.spelled ∙ ap (λ (front : List ℕ). front ++ flat_map spelled_datum rest.xs) (sym back);
    }

same_frame : (m n : ℕ) → m ≡ n → header (kind.Array m elem.Integer) m ≡ header (kind.Array n elem.Integer) n
same_frame m n is = ap (λ (k : ℕ). header (kind.Array k elem.Integer) k) is

pub all_bytes_spell : AllBytesSpell
all_bytes_spell n bytes few are frame =
    let lens : length (drop 4 bytes) ≡ 4 * n = omega (arith, length-drop 4 bytes, frame.long) in
    let rest = integers n (drop 4 bytes) (λ i. subst (λ (b : ℕ). b < 256) (sym (get_or-drop 4 bytes i 0)) (are (4 + i))) lens in (
      rest.xs,
      record {
        kind = ap (λ (k : ℕ). kind.Array k elem.Integer) rest.many;
        contents = record { each = rest.each; few = omega (arith, rest.many, few) };
        spelled = sym (take-append-drop 4 bytes) ∙ ap (λ (front : List ℕ). front ++ drop 4 bytes) (frame.front ∙ sym (same_frame (length rest.xs) n rest.many))
            ∙ ap (λ (r : List ℕ). header (kind.Array (length rest.xs) elem.Integer) (length rest.xs) ++ r) rest.spelled;
      },
    )

-- so many bytes
spelled_long : (xs : List Datum) → All (IsElement elem.Integer) xs → length (flat_map spelled_datum xs) ≡ 4 * length xs
spelled_long [] each = refl
spelled_long (datum.Text t ∷ xs) each = absurd (other_sort elem.Integer refl (head (IsElement elem.Integer) (datum.Text t) xs each).sort)
spelled_long (datum.Integer m ∷ xs) each =
    let later = spelled_long xs (tail (IsElement elem.Integer) (datum.Integer m) xs each) in
    omega (arith, length-append (to_be_bytes w32 m) (flat_map spelled_datum xs), later)

array_long : (xs : List Datum) → All (IsElement elem.Integer) xs → length (spelling (array elem.Integer xs)) ≡ 4 + 4 * length xs
array_long xs each = omega (arith, length-append (header (kind.Array (length xs) elem.Integer) (length xs)) (flat_map spelled_datum xs), spelled_long xs each)

is_array : (k n : ℕ) (e : Elem) → kind.Array k e ≡ kind.Array n elem.Integer → (k ≡ n) × (e ≡ elem.Integer)
is_array k n e is = (cc, cc)

frame_of : (n : ℕ) (bytes : List ℕ) (e : Elem) (xs : List Datum) → e ≡ elem.Integer → Spells bytes (kind.Array n elem.Integer) (array e xs) → HasFrame n bytes × (n ≤ most_elements)
frame_of n bytes e xs sort is =
    let many : length xs ≡ n = (is_array (length xs) n e is.kind).0 in
    let each : All (IsElement elem.Integer) xs = subst (λ s. All (IsElement s) xs) sort is.contents.each in
    let spelled : bytes ≡ spelling (array elem.Integer xs) = is.spelled ∙ ap (λ (s : Elem). spelling (array s xs)) sort in (
      record {
        front = ap (take 4) spelled ∙ same_frame (length xs) n many;
        long = ap length spelled ∙ array_long xs each ∙ ap (λ (k : ℕ). 4 + 4 * k) many;
      },
      omega (arith, many, is.contents.few),
    )

no_queue : (e : Elem) (n : ℕ) → kind.Queue e ≡ kind.Array n elem.Integer → ⊥
no_queue e n is = cc

no_table : (e : Elem) (n : ℕ) → kind.Table e ≡ kind.Array n elem.Integer → ⊥
no_table e n is = cc

pub frame_is_due : FrameIsDue
frame_is_due n bytes (array e xs) is = frame_of n bytes e xs (is_array (length xs) n e is.kind).1 is
frame_is_due n bytes (queue e xs) is = absurd (no_queue e n is.kind)
frame_is_due n bytes (table e m) is = absurd (no_table e n is.kind)

-- a byte of a page
pub of_page : (k j : ℕ) (bytes : List ℕ) → j < 1024 → get_or (page_at k bytes) j 0 ≡ get_or bytes (1024 * k + j) 0
of_page k j bytes less = get_or-take 1024 (drop (1024 * k) bytes) j 0 less ∙ get_or-drop (1024 * k) bytes j 0

pub page_long : (k : ℕ) (bytes : List ℕ) → length (page_at k bytes) ≡ min 1024 (length bytes - 1024 * k)
page_long k bytes = length-take 1024 (drop (1024 * k) bytes) ∙ ap (min 1024) (length-drop (1024 * k) bytes)

-- a byte of an element
of_element : (xs : List Datum) (i r n : ℕ) → IsContents (array elem.Integer xs) → slice_get xs i ≡ Some (datum.Integer n) → r < 4 → get_or (spelling (array elem.Integer xs)) (4 + 4 * i + r) 0 ≡ get_or (to_be_bytes w32 n) r 0
of_element xs i r n is there less =
    sym (get_or-drop (4 + 4 * i) (spelling (array elem.Integer xs)) r 0)
    ∙ sym (get_or-take 4 (drop (4 + 4 * i) (spelling (array elem.Integer xs))) r 0 less)
    ∙ ap (λ (b : List ℕ). get_or b r 0) (stand_in_place Second xs i n is there)

-- what stands at a place of an array of integers
an_integer : (xs : List Datum) (i : ℕ) → IsContents (array elem.Integer xs) → i < length xs → (n : ℕ) × (n < 2 ^ 32) × (slice_get xs i ≡ Some (datum.Integer n))
an_integer xs i is less = integer_from (get_or xs i (datum.Integer 0)) (All-get_or (IsElement elem.Integer) xs i (datum.Integer 0) less is.each) (slice_get-get_or xs i (datum.Integer 0) less) where
  integer_from : (d : Datum) → IsElement elem.Integer d → slice_get xs i ≡ Some d → (n : ℕ) × (n < 2 ^ 32) × (slice_get xs i ≡ Some (datum.Integer n))
  integer_from (datum.Integer n) of at = (n, of.datum, at)
  integer_from (datum.Text t) of at = absurd (other_sort elem.Integer refl of.sort)

-- the same four bytes are the same integer
same_integer : (m n : ℕ) → m < 2 ^ 32 → n < 2 ^ 32 → ((r : ℕ) → r < 4 → get_or (to_be_bytes w32 m) r 0 ≡ get_or (to_be_bytes w32 n) r 0) → m ≡ n
same_integer m n lm ln each =
    let same : to_be_bytes w32 m ≡ to_be_bytes w32 n = ext_get_or 0 (to_be_bytes w32 m) (to_be_bytes w32 n) refl each in
    sym (from_be_bytes-to_be_bytes_4 m lm) ∙ ap (from_be_bytes w32) same ∙ from_be_bytes-to_be_bytes_4 n ln

same_elements_in : (k : ℕ) (xs ys : List Datum) → IsContents (array elem.Integer xs) → IsContents (array elem.Integer ys) → length xs ≡ length ys
    → page_at k (spelling (array elem.Integer xs)) ≡ page_at k (spelling (array elem.Integer ys)) → (i : ℕ) → page_of i ≡ k → (i < length xs) ⊎ (length xs ≤ i) → slice_get xs i ≡ slice_get ys i
same_elements_in k xs ys a b many pages i in_page (inr past) = slice_get_past xs i past ∙ sym (slice_get_past ys i (omega (arith, past, many)))
same_elements_in k xs ys a b many pages i in_page (inl within) =
    let x = an_integer xs i a within in
    let y = an_integer ys i b (omega (arith, within, many)) in
    let at : (r : ℕ) → r < 4 → get_or (to_be_bytes w32 x.0) r 0 ≡ get_or (to_be_bytes w32 y.0) r 0 =
    λ r less.
    let j : ℕ = (4 + 4 * i - 1024 * k) + r in
    let small : j < 1024 = omega (arith, in_page, less) in
    let place : 1024 * k + j ≡ 4 + 4 * i + r = omega (arith, in_page, less) in
    sym (of_element xs i r x.0 a x.2 less) ∙ ap (λ p. get_or (spelling (array elem.Integer xs)) p 0) (sym place) ∙ sym (of_page k j (spelling (array elem.Integer xs)) small)
    ∙ ap (λ (p : List ℕ). get_or p j 0) pages
    ∙ of_page k j (spelling (array elem.Integer ys)) small ∙ ap (λ p. get_or (spelling (array elem.Integer ys)) p 0) place ∙ of_element ys i r y.0 b y.2 less in
    x.2 ∙ ap (λ n. Some (datum.Integer n)) (same_integer x.0 y.0 x.1 y.1 at) ∙ sym y.2

-- the byte at a place of a page, where the elements of the page are the same
same_byte : (k m : ℕ) (xs ys : List Datum) → IsContents (array elem.Integer xs) → IsContents (array elem.Integer ys) → length xs ≡ length ys
    → ((i : ℕ) → page_of i ≡ k → slice_get xs i ≡ slice_get ys i) → m / 1024 ≡ k → m < 4 + 4 * length xs → (m < 4) ⊎ (4 ≤ m)
    → get_or (spelling (array elem.Integer xs)) m 0 ≡ get_or (spelling (array elem.Integer ys)) m 0
same_byte k m xs ys a b many same at within (inl less) =
    get_or-append (header (kind.Array (length xs) elem.Integer) (length xs)) (flat_map spelled_datum xs) 0 m less
    ∙ ap (λ (h : List ℕ). get_or h m 0) (same_frame (length xs) (length ys) many)
    ∙ sym (get_or-append (header (kind.Array (length ys) elem.Integer) (length ys)) (flat_map spelled_datum ys) 0 m less)
same_byte k m xs ys a b many same at within (inr far) =
    let i : ℕ = (m - 4) / 4 in
    let r : ℕ = (m - 4) % 4 in
    let small : r < 4 = omega arith in
    let place : 4 + 4 * i + r ≡ m = omega (arith, far) in
    let inside : i < length xs = omega (arith, far, within) in
    let page : page_of i ≡ k = omega (arith, far, at) in
    let x = an_integer xs i a inside in
    ap (λ p. get_or (spelling (array elem.Integer xs)) p 0) (sym place) ∙ of_element xs i r x.0 a x.2 small
    ∙ sym (of_element ys i r x.0 b (sym (same i page) ∙ x.2) small) ∙ ap (λ p. get_or (spelling (array elem.Integer ys)) p 0) place

same_page_of : (k : ℕ) (xs ys : List Datum) → IsContents (array elem.Integer xs) → IsContents (array elem.Integer ys) → length xs ≡ length ys
    → ((i : ℕ) → page_of i ≡ k → slice_get xs i ≡ slice_get ys i) → page_at k (spelling (array elem.Integer xs)) ≡ page_at k (spelling (array elem.Integer ys))
same_page_of k xs ys a b many same =
    let sx = spelling (array elem.Integer xs) in
    let sy = spelling (array elem.Integer ys) in
    let lx : length sx ≡ 4 + 4 * length xs = array_long xs a.each in
    let ly : length sy ≡ 4 + 4 * length ys = array_long ys b.each in
    let lens : length (page_at k sx) ≡ length (page_at k sy) = page_long k sx ∙ ap (λ n. min 1024 (n - 1024 * k)) (omega (arith, lx, ly, many)) ∙ sym (page_long k sy) in
    ext_get_or 0 (page_at k sx) (page_at k sy) lens (λ j less.
    let long = page_long k sx in
    let small : j < 1024 = omega (arith, less, long) in
    let within : 1024 * k + j < 4 + 4 * length xs = omega (arith, less, long, lx) in
    of_page k j sx small ∙ same_byte k (1024 * k + j) xs ys a b many same (omega (arith, small)) within (cases_lt (1024 * k + j) 4) ∙ sym (of_page k j sy small))

pub pages_tell : PagesTell
pages_tell k xs ys a b many = (λ pages i in_page. same_elements_in k xs ys a b many pages i in_page (cases_lt i (length xs)), same_page_of k xs ys a b many)
