-- A spelling is its header, and the bytes behind it.
use Rattle.std.proofs.Common.{◌≡◌, ℕ, ◌<◌, ◌≤◌, ◌^◌, true, false, List, ◌∷◌, ◌++◌, length, drop, Result, Ok, refl, sym, ap, ◌∙◌, subst, arith}
use Rattle.std.specs.Prelude.{All, nat_lt}
use Rattle.std.specs.List.{flat_map}
use Rattle.std.specs.Int.{w16, to_be_bytes}
use Rattle.std.specs.FinMap as map
use Rattle.std.proofs.lemmas.Bool.Decides.{nat_tests}
use Rattle.value_core.specs.TextOrder.{text_cmp}
use Rattle.value_core.specs.declared.format.Format.TheVariants.{Second}
use Rattle.value_core.specs.declared.datum.Datum.{Datum}
use Rattle.value_core.specs.declared.kind.Elem.{Elem}
use Rattle.value_core.specs.declared.kind.Kind.{Kind}
use Rattle.value_core.specs.declared.kind.Kind.TheVariants as kind
use Rattle.value_core.specs.declared.refusal.Refusal.{Refusal}
use Rattle.value_core.specs.Kinds.{sort_of}
use Rattle.value_core.specs.Limits.{most_elements}
use Rattle.value_core.specs.Datum.{IsElement}
use Rattle.value_core.specs.Contents.{Contents, array, queue, table, kind_of, IsContents, IsRow, AreRows}
use Rattle.value_core.specs.Meaning.{count_of}
use Rattle.value_bytes.specs.Spelling.{spelled_datum, spelled_row, code_of, header, spelling, Spells, SpellElements, SpellRows}
use Rattle.value_bytes.proofs.Apart.{count_apart}
use Rattle.value_bytes.proofs.Unique.{header_apart}
use Rattle.apply_core.specs.Entries.{behind_header}

pub shape : (v : Contents) → spelling v ≡ header (kind_of v) (count_of v) ++ behind_header v
shape (array e xs) = refl
shape (queue e xs) = refl
shape (table e m) = refl

pub few_of : (v : Contents) → IsContents v → count_of v ≤ most_elements
few_of (array e xs) is = is.few
few_of (queue e xs) is = is.few
few_of (table e m) is = is.few

fits : (n : ℕ) → n ≤ most_elements → n < 2 ^ 16
fits n few = omega (arith, few)

-- what a header tells
pub opened_is : (bytes rest : List ℕ) (code count : ℕ) → bytes ≡ 2 ∷ code ∷ to_be_bytes w16 count ++ rest → count < 2 ^ 16 → (k : Kind) (v : Contents) → Spells bytes k v → (count ≡ count_of v) × (rest ≡ behind_header v)
opened_is bytes rest code count at small k v is =
    let same : 2 ∷ code ∷ to_be_bytes w16 count ++ rest ≡ 2 ∷ code_of (kind_of v) ∷ to_be_bytes w16 (count_of v) ++ behind_header v = sym at ∙ is.spelled ∙ shape v in
    let behind : to_be_bytes w16 count ++ rest ≡ to_be_bytes w16 (count_of v) ++ behind_header v = ap (λ (z : List ℕ). drop 2 z) same in
    count_apart count (count_of v) rest (behind_header v) small (fits (count_of v) (few_of v is.contents)) behind

-- bytes without a header spell nothing
pub no_header : (bytes : List ℕ) → ((code count : ℕ) (rest : List ℕ) → bytes ≡ 2 ∷ code ∷ to_be_bytes w16 count ++ rest → ⊥) → (k : Kind) (v : Contents) → Spells bytes k v → ⊥
no_header bytes none k v is = none (code_of (kind_of v)) (count_of v) (behind_header v) (is.spelled ∙ shape v)

-- nor do those with the header of another kind, or with too many elements
pub other_code : (bytes rest : List ℕ) (code count : ℕ) → bytes ≡ 2 ∷ code ∷ to_be_bytes w16 count ++ rest → (k : Kind) (v : Contents) → Spells bytes k v → code ≡ code_of k
other_code bytes rest code count at k v is =
    let same : 2 ∷ code ∷ to_be_bytes w16 count ++ rest ≡ 2 ∷ code_of (kind_of v) ∷ to_be_bytes w16 (count_of v) ++ behind_header v = sym at ∙ is.spelled ∙ shape v in
    let one : code ≡ code_of (kind_of v) = cc in
    one ∙ ap code_of is.kind

pub too_many_there : (bytes rest : List ℕ) (code count : ℕ) → bytes ≡ 2 ∷ code ∷ to_be_bytes w16 count ++ rest → count < 2 ^ 16 → (k : Kind) (v : Contents) → Spells bytes k v → count ≤ most_elements
too_many_there bytes rest code count at small k v is =
    let told = opened_is bytes rest code count at small k v is in
    omega (arith, told.0, few_of v is.contents)

-- the header of this kind
pub as_header : (bytes rest : List ℕ) (code count : ℕ) (k : Kind) → bytes ≡ 2 ∷ code ∷ to_be_bytes w16 count ++ rest → code ≡ code_of k → bytes ≡ header k count ++ rest
as_header bytes rest code count k at same = at ∙ ap (λ c. 2 ∷ c ∷ to_be_bytes w16 count ++ rest) same

array_not_queue : (n : ℕ) (f e : Elem) → kind.Array n f ≡ kind.Queue e → ⊥
array_not_queue n f e is = cc

array_not_table : (n : ℕ) (f e : Elem) → kind.Array n f ≡ kind.Table e → ⊥
array_not_table n f e is = cc

queue_not_table : (f e : Elem) → kind.Queue f ≡ kind.Table e → ⊥
queue_not_table f e is = cc

array_length : (m n : ℕ) (f e : Elem) → kind.Array m f ≡ kind.Array n e → m ≡ n
array_length m n f e is = cc

-- the elements of a queue, from what its bytes spell
pub record QueueIn (bytes : List ℕ) (e : Elem) (v : Contents) : Type 0 where
  pub xs : List Datum
  pub is : v ≡ queue e xs
  pub each : All (IsElement e) xs
  pub few : length xs ≤ most_elements
  pub count : count_of v ≡ length xs
  pub behind : behind_header v ≡ flat_map spelled_datum xs

pub queue_in : (bytes : List ℕ) (e : Elem) (v : Contents) → Spells bytes (kind.Queue e) v → QueueIn bytes e v
queue_in bytes e (array f xs) is = absurd (array_not_queue (length xs) f e is.kind)
queue_in bytes e (queue f xs) is =
    let sort : f ≡ e = ap sort_of is.kind in
    record { xs = xs; is = ap (λ s. queue s xs) sort; each = subst (λ s. All (IsElement s) xs) sort is.contents.each; few = is.contents.few; count = refl; behind = refl }
queue_in bytes e (table f m) is = absurd (queue_not_table e f (sym is.kind))

pub queue_spells : (bytes : List ℕ) (e : Elem) (count : ℕ) (xs : List Datum) → All (IsElement e) xs → length xs ≤ most_elements → length xs ≡ count → bytes ≡ header (kind.Queue e) count ++ flat_map spelled_datum xs → Spells bytes (kind.Queue e) (queue e xs)
queue_spells bytes e count xs each few many spelled =
    record { kind = refl; contents = record { each = each; few = few }; spelled = spelled ∙ ap (λ n. header (kind.Queue e) n ++ flat_map spelled_datum xs) (sym many) }

-- the rows of a table, from what its bytes spell
pub record TableIn (bytes : List ℕ) (e : Elem) (v : Contents) : Type 0 where
  pub m : map.FinMap text_cmp Datum
  pub is : v ≡ table e m
  pub rows : AreRows e m
  pub count : count_of v ≡ map.len m
  pub behind : behind_header v ≡ flat_map spelled_row (map.entries m)

pub table_in : (bytes : List ℕ) (e : Elem) (v : Contents) → Spells bytes (kind.Table e) v → TableIn bytes e v
table_in bytes e (array f xs) is = absurd (array_not_table (length xs) f e is.kind)
table_in bytes e (queue f xs) is = absurd (queue_not_table f e is.kind)
table_in bytes e (table f m) is =
    let sort : f ≡ e = ap sort_of is.kind in
    record { m = m; is = ap (λ s. table s m) sort; rows = record { each = subst (λ s. All (IsRow s) (map.entries m)) sort is.contents.each; few = is.contents.few }; count = refl; behind = refl }

pub table_spells : (bytes : List ℕ) (e : Elem) (count : ℕ) (m : map.FinMap text_cmp Datum) (es : List (List ℕ × Datum)) → AreRows e m → map.entries m ≡ es → length es ≡ count → bytes ≡ header (kind.Table e) count ++ flat_map spelled_row es → Spells bytes (kind.Table e) (table e m)
table_spells bytes e count m es rows are many spelled =
    let len : map.len m ≡ count = map.len-entries m ∙ ap length are ∙ many in
    let whole : header (kind.Table e) count ++ flat_map spelled_row es ≡ header (kind.Table e) (map.len m) ++ flat_map spelled_row (map.entries m) = λ i. header (kind.Table e) (sym len i) ++ flat_map spelled_row (sym are i) in
    record { kind = refl; contents = rows; spelled = spelled ∙ whole }

-- the elements of an array
pub record ArrayIn (bytes : List ℕ) (n : ℕ) (e : Elem) (v : Contents) : Type 0 where
  pub xs : List Datum
  pub is : v ≡ array e xs
  pub long : length xs ≡ n
  pub each : All (IsElement e) xs
  pub few : length xs ≤ most_elements
  pub count : count_of v ≡ length xs
  pub behind : behind_header v ≡ flat_map spelled_datum xs

pub array_in : (bytes : List ℕ) (n : ℕ) (e : Elem) (v : Contents) → Spells bytes (kind.Array n e) v → ArrayIn bytes n e v
array_in bytes n e (array f xs) is =
    let sort : f ≡ e = ap sort_of is.kind in
    record { xs = xs; is = ap (λ s. array s xs) sort; long = array_length (length xs) n f e is.kind; each = subst (λ s. All (IsElement s) xs) sort is.contents.each; few = is.contents.few; count = refl; behind = refl }
array_in bytes n e (queue f xs) is = absurd (array_not_queue n e f (sym is.kind))
array_in bytes n e (table f m) is = absurd (array_not_table n e f (sym is.kind))

pub array_spells : (bytes : List ℕ) (n : ℕ) (e : Elem) (xs : List Datum) → All (IsElement e) xs → length xs ≤ most_elements → length xs ≡ n → bytes ≡ header (kind.Array n e) n ++ flat_map spelled_datum xs → Spells bytes (kind.Array n e) (array e xs)
array_spells bytes n e xs each few long spelled =
    record { kind = ap (λ l. kind.Array l e) long; contents = record { each = each; few = few }; spelled = spelled ∙ ap (λ l. header (kind.Array l e) l ++ flat_map spelled_datum xs) (sym long) }

-- so many elements behind a header
module _ (count : ℕ) (rest : List ℕ) (few : count ≤ most_elements) where
  pub elements_of_queue : (e : Elem) (v : Contents) → Spells (header (kind.Queue e) count ++ rest) (kind.Queue e) v → (xs : List Datum) × SpellElements Second rest e count xs
  elements_of_queue e v is =
      let q = queue_in (header (kind.Queue e) count ++ rest) e v is in
      let parts = header_apart Second (kind.Queue e) (kind_of v) count (count_of v) rest (behind_header v) few (few_of v is.contents) (is.spelled ∙ shape v) in
      (q.xs, record { each = q.each; many = sym (parts.1 ∙ q.count); spelled = parts.2 ∙ q.behind })

  pub elements_of_array : (n : ℕ) (e : Elem) (v : Contents) → Spells (header (kind.Array n e) count ++ rest) (kind.Array n e) v → (count ≡ n) × ((xs : List Datum) × SpellElements Second rest e count xs)
  elements_of_array n e v is =
      let a = array_in (header (kind.Array n e) count ++ rest) n e v is in
      let parts = header_apart Second (kind.Array n e) (kind_of v) count (count_of v) rest (behind_header v) few (few_of v is.contents) (is.spelled ∙ shape v) in
      (parts.1 ∙ a.count ∙ a.long, (a.xs, record { each = a.each; many = sym (parts.1 ∙ a.count); spelled = parts.2 ∙ a.behind }))

  pub rows_of_table : (e : Elem) (v : Contents) → Spells (header (kind.Table e) count ++ rest) (kind.Table e) v → (m : map.FinMap text_cmp Datum) × SpellRows Second rest e count m
  rows_of_table e v is =
      let t = table_in (header (kind.Table e) count ++ rest) e v is in
      let parts = header_apart Second (kind.Table e) (kind_of v) count (count_of v) rest (behind_header v) few (few_of v is.contents) (is.spelled ∙ shape v) in
      (t.m, record { each = t.rows.each; many = sym (parts.1 ∙ t.count); spelled = parts.2 ∙ t.behind })

  pub queue_there : (e : Elem) (xs : List Datum) → SpellElements Second rest e count xs → (v : Contents) × Spells (header (kind.Queue e) count ++ rest) (kind.Queue e) v
  queue_there e xs is = (queue e xs, queue_spells (header (kind.Queue e) count ++ rest) e count xs is.each (omega (arith, few, is.many)) is.many (ap (λ (r : List ℕ). header (kind.Queue e) count ++ r) is.spelled))

  pub array_there : (n : ℕ) (e : Elem) (xs : List Datum) → count ≡ n → SpellElements Second rest e count xs → (v : Contents) × Spells (header (kind.Array n e) count ++ rest) (kind.Array n e) v
  array_there n e xs same is = (
    array e xs,
    array_spells (header (kind.Array n e) count ++ rest) n e xs is.each (omega (arith, few, is.many)) (is.many ∙ same)
        (ap (λ (r : List ℕ). header (kind.Array n e) count ++ r) is.spelled ∙ ap (λ c. header (kind.Array n e) c ++ flat_map spelled_datum xs) same),
  )

  pub table_there : (e : Elem) (m : map.FinMap text_cmp Datum) → SpellRows Second rest e count m → (v : Contents) × Spells (header (kind.Table e) count ++ rest) (kind.Table e) v
  table_there e m is =
      (table e m, table_spells (header (kind.Table e) count ++ rest) e count m (map.entries m) (record { each = is.each; few = omega (arith, few, is.many) }) refl (sym (map.len-entries m) ∙ is.many) (ap (λ (r : List ℕ). header (kind.Table e) count ++ r) is.spelled))

pub is_less : (m n : ℕ) → m < n → nat_lt m n ≡ true
is_less m n less = grind (arith, nat_tests)

pub not_less : (m n : ℕ) → n ≤ m → nat_lt m n ≡ false
not_less m n less = grind (arith, nat_tests)

-- an operation that was not refused
abbrev pub ok_of : {A : Type 0} → A → Result A Refusal
ok_of x = Ok x
