-- What the operations on a queue do to its bytes.
use Rattle.std.proofs.Common.{◌≡◌, ℕ, ◌+◌, ◌-◌, ◌<◌, ◌≤◌, List, [], ◌∷◌, ◌++◌, length, Ok, Err, IsOk, refl, sym, ap, ◌∙◌, subst, append_assoc, arith}
use Rattle.std.specs.Prelude.{All, if◌then◌else◌}
use Rattle.std.specs.List.{flat_map}
use Rattle.std.proofs.lemmas.List.{append-nil}
use Rattle.std.proofs.lemmas.Grind.{flat_map-append}
use Rattle.value_core.specs.declared.datum.Datum.{Datum}
use Rattle.value_core.specs.declared.kind.Elem.{Elem}
use Rattle.value_core.specs.declared.kind.Kind.TheVariants as kind
use Rattle.value_core.specs.declared.refusal.Refusal.TheVariants.{Full, Empty}
use Rattle.value_core.specs.Limits.{most_elements}
use Rattle.value_core.specs.Datum.{IsElement}
use Rattle.value_core.specs.Contents.{Contents, queue}
use Rattle.value_core.specs.Meaning.{count_of, oldest_of, without_oldest, with_newest}
use Rattle.value_bytes.specs.Spelling.{spelled_datum, header, Spells}
use Rattle.value_core.proofs.TableRows.{head, tail}
use Rattle.value_bytes.proofs.Decoding.{All-push, length-push}
use Rattle.apply_core.specs.Entries.{behind_header}
use Rattle.apply_core.specs.Remade.{SpellNew}
use Rattle.apply_core.proofs.Shapes.{queue_in, queue_spells, is_less, not_less, ok_of}

-- what the header told
abbrev pub IsOpened : List ℕ → ℕ → List ℕ → Contents → Type 0
IsOpened bytes count entries v = (count ≡ count_of v) × (entries ≡ behind_header v)

-- the first of some elements
some_first : (xs : List Datum) → 0 < length xs → (x : Datum) × (ys : List Datum) × (xs ≡ x ∷ ys)
some_first [] some = absurd (omega (arith, some))
some_first (x ∷ ys) some = (x, ys, refl)

pub record First (bytes entries : List ℕ) (e : Elem) (v : Contents) : Type 0 where
  pub x : Datum
  pub later : List Datum
  pub value : v ≡ queue e (x ∷ later)
  pub each : All (IsElement e) (x ∷ later)
  pub few : length (x ∷ later) ≤ most_elements
  pub front : entries ≡ spelled_datum x ++ flat_map spelled_datum later

pub first_in : (bytes entries : List ℕ) (e : Elem) (count : ℕ) (v : Contents) → Spells bytes (kind.Queue e) v → IsOpened bytes count entries v → 0 < count → First bytes entries e v
first_in bytes entries e count v is opened some =
    let q = queue_in bytes e v is in
    let long : count ≡ length q.xs = opened.0 ∙ q.count in
    let at = some_first q.xs (omega (arith, long, some)) in
    record {
      x = at.0;
      later = at.1;
      value = q.is ∙ ap (queue e) at.2;
      each = subst (All (IsElement e)) at.2 q.each;
      few = omega (arith, q.few, ap length at.2);
      front = opened.1 ∙ q.behind ∙ ap (λ (ys : List Datum). flat_map spelled_datum ys) at.2;
    }

-- none is the oldest of no element
pub none_oldest : (bytes entries : List ℕ) (e : Elem) (count : ℕ) (v : Contents) → Spells bytes (kind.Queue e) v → IsOpened bytes count entries v → count ≡ 0 → v ≡ queue e []
none_oldest bytes entries e count v is opened none =
    let q = queue_in bytes e v is in
    q.is ∙ ap (queue e) (nothing q.xs (omega (arith, opened.0, q.count, none)))
  where
    nothing : (xs : List Datum) → length xs ≡ 0 → xs ≡ []
    nothing [] none = refl
    nothing (x ∷ xs) none = absurd (omega (arith, none))

pub oldest_none : (bytes entries : List ℕ) (e : Elem) (count : ℕ) (v : Contents) → Spells bytes (kind.Queue e) v → IsOpened bytes count entries v → count ≡ 0 → oldest_of v ≡ Err Empty
oldest_none bytes entries e count v is opened none = ap oldest_of (none_oldest bytes entries e count v is opened none)

pub taken_none : (bytes entries : List ℕ) (e : Elem) (count : ℕ) (v : Contents) → Spells bytes (kind.Queue e) v → IsOpened bytes count entries v → count ≡ 0 → without_oldest v ≡ Err Empty
taken_none bytes entries e count v is opened none = ap without_oldest (none_oldest bytes entries e count v is opened none)

pub oldest_is : (bytes entries : List ℕ) (e : Elem) (count : ℕ) (d : Datum) (v : Contents) → Spells bytes (kind.Queue e) v → IsOpened bytes count entries v → 0 < count
    → ((x : Datum) (r : List ℕ) → IsElement e x → entries ≡ spelled_datum x ++ r → d ≡ x) → ok_of d ≡ oldest_of v
oldest_is bytes entries e count d v is opened some read =
    let f = first_in bytes entries e count v is opened some in
    ap (λ (y : Datum). ok_of y) (read f.x (flat_map spelled_datum f.later) (head (IsElement e) f.x f.later f.each) f.front) ∙ sym (ap oldest_of f.value)

-- an element stands at the front of a queue that has some
pub no_oldest : (bytes entries : List ℕ) (e : Elem) (count : ℕ) (v : Contents) → Spells bytes (kind.Queue e) v → IsOpened bytes count entries v → 0 < count
    → ((x : Datum) (r : List ℕ) → IsElement e x → entries ≡ spelled_datum x ++ r → ⊥) → ⊥
no_oldest bytes entries e count v is opened some none =
    let f = first_in bytes entries e count v is opened some in
    none f.x (flat_map spelled_datum f.later) (head (IsElement e) f.x f.later f.each) f.front

taken_value : (e : Elem) (x : Datum) (later : List Datum) → without_oldest (queue e (x ∷ later)) ≡ Ok (queue e later)
taken_value e x later =
    ap (λ b. if b then ok_of (queue e later) else Err Empty) (is_less 0 (length (x ∷ later)) (omega arith))

-- without the oldest
pub taken : (bytes entries rest out : List ℕ) (e : Elem) (count : ℕ) (v : Contents) → Spells bytes (kind.Queue e) v → IsOpened bytes count entries v → 0 < count
    → ((x : Datum) (r : List ℕ) → IsElement e x → entries ≡ spelled_datum x ++ r → rest ≡ r) → out ≡ (header (kind.Queue e) (count - 1) ++ []) ++ rest → SpellNew (kind.Queue e) out (without_oldest v)
taken bytes entries rest out e count v is opened some skipped made =
    let f = first_in bytes entries e count v is opened some in
    let behind : rest ≡ flat_map spelled_datum f.later = skipped f.x (flat_map spelled_datum f.later) (head (IsElement e) f.x f.later f.each) f.front in
    let many : length f.later ≡ count - 1 = omega (arith, opened.0, ap count_of f.value) in (
      queue e f.later,
      ap without_oldest f.value ∙ taken_value e f.x f.later,
      queue_spells out e (count - 1) f.later (tail (IsElement e) f.x f.later f.each) (omega (arith, f.few)) many
          (made ∙ (λ i. append-nil (header (kind.Queue e) (count - 1)) i ++ behind i)),
    )

pub taken_ok : (bytes entries : List ℕ) (e : Elem) (count : ℕ) (v : Contents) → Spells bytes (kind.Queue e) v → IsOpened bytes count entries v → 0 < count → IsOk (without_oldest v)
taken_ok bytes entries e count v is opened some =
    let f = first_in bytes entries e count v is opened some in
    subst IsOk (sym (ap without_oldest f.value ∙ taken_value e f.x f.later)) refl

added_value : (e : Elem) (xs : List Datum) (d : Datum) → length xs < most_elements → with_newest (queue e xs) d ≡ Ok (queue e (xs ++ d ∷ []))
added_value e xs d room = ap (λ b. if b then ok_of (queue e (xs ++ d ∷ [])) else Err Full) (is_less (length xs) most_elements room)

-- with one more
pub added : (bytes entries out : List ℕ) (e : Elem) (count : ℕ) (d : Datum) (v : Contents) → Spells bytes (kind.Queue e) v → IsOpened bytes count entries v → count < most_elements → IsElement e d
    → out ≡ ((header (kind.Queue e) (count + 1) ++ entries) ++ spelled_datum d) ++ [] → SpellNew (kind.Queue e) out (with_newest v d)
added bytes entries out e count d v is opened room element made =
    let q = queue_in bytes e v is in
    let long : count ≡ length q.xs = opened.0 ∙ q.count in
    let whole : flat_map spelled_datum (q.xs ++ d ∷ []) ≡ flat_map spelled_datum q.xs ++ spelled_datum d = flat_map-append spelled_datum q.xs (d ∷ []) ∙ ap (λ (r : List ℕ). flat_map spelled_datum q.xs ++ r) (append-nil (spelled_datum d)) in
    let entries_are : entries ≡ flat_map spelled_datum q.xs = opened.1 ∙ q.behind in (
      queue e (q.xs ++ d ∷ []),
      ap (λ w. with_newest w d) q.is ∙ added_value e q.xs d (omega (arith, room, long)),
      queue_spells out e (count + 1) (q.xs ++ d ∷ []) (All-push (IsElement e) q.xs d q.each element) (omega (arith, length-push q.xs d count (sym long), room)) (length-push q.xs d count (sym long))
          (made ∙ append-nil ((header (kind.Queue e) (count + 1) ++ entries) ++ spelled_datum d) ∙ append_assoc (header (kind.Queue e) (count + 1)) entries (spelled_datum d)
          ∙ ap (λ (r : List ℕ). header (kind.Queue e) (count + 1) ++ (r ++ spelled_datum d)) entries_are ∙ ap (λ (r : List ℕ). header (kind.Queue e) (count + 1) ++ r) (sym whole)),
    )

pub added_ok : (bytes entries : List ℕ) (e : Elem) (count : ℕ) (d : Datum) (v : Contents) → Spells bytes (kind.Queue e) v → IsOpened bytes count entries v → count < most_elements → IsOk (with_newest v d)
added_ok bytes entries e count d v is opened room =
    let q = queue_in bytes e v is in
    let long : count ≡ length q.xs = opened.0 ∙ q.count in
    subst IsOk (sym (ap (λ w. with_newest w d) q.is ∙ added_value e q.xs d (omega (arith, room, long)))) refl

pub added_full : (bytes entries : List ℕ) (e : Elem) (count : ℕ) (d : Datum) (v : Contents) → Spells bytes (kind.Queue e) v → IsOpened bytes count entries v → most_elements ≤ count → with_newest v d ≡ Err Full
added_full bytes entries e count d v is opened full =
    let q = queue_in bytes e v is in
    let long : count ≡ length q.xs = opened.0 ∙ q.count in
    ap (λ w. with_newest w d) q.is ∙ ap (λ b. if b then ok_of (queue e (q.xs ++ d ∷ [])) else Err Full) (not_less (length q.xs) most_elements (omega (arith, full, long)))
