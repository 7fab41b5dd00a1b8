-- A spelling by its entries, and each change as a splice of them.
use Rattle.std.proofs.Common.{◌≡◌, ℕ, ◌+◌, ◌<◌, ◌≤◌, Bool, true, false, List, [], ◌∷◌, ◌++◌, length, take, drop, map, Ok, Err, ◌⊎◌, inl, inr, refl, sym, ap, ◌∙◌, append_assoc, arith, length-append}
use Rattle.std.specs.Prelude.{nat_lt, ◌||◌, if◌then◌else◌, is_some, slice_set}
use Rattle.std.specs.List.{flat_map}
use Rattle.std.specs.FinMap as maps
use Rattle.std.specs.FinMap.{put, find}
use Rattle.std.specs.BTreeMap.{is_at}
use Rattle.std.specs.Map.{remove_entry}
use Rattle.std.specs.Cmp.Lexicographic.{nat_list_cmp_total}
use Rattle.std.proofs.Math.Seq.{take-append_seam, drop-append_seam}
use Rattle.std.proofs.lemmas.List.{append-nil, length-map}
use Rattle.std.proofs.lemmas.Bool.Decides.{nat_tests}
use Rattle.value_core.specs.TextOrder.{text_cmp}
use Rattle.value_core.specs.declared.datum.Datum.{Datum}
use Rattle.value_core.specs.declared.kind.Elem.{Elem}
use Rattle.value_core.specs.declared.kind.Kind.TheVariants as kind
use Rattle.value_core.specs.declared.refusal.Refusal.{Refusal}
use Rattle.value_core.specs.declared.refusal.Refusal.TheVariants.{Index, Full, Empty, Missing}
use Rattle.value_core.specs.Limits.{most_elements}
use Rattle.value_core.specs.Contents.{Contents, array, queue, table}
use Rattle.value_core.specs.Meaning.{with_element, without_oldest, with_newest, with_row, without_key}
use Rattle.value_bytes.specs.Spelling.{spelled_datum, spelled_row, header}
use Rattle.apply_core.specs.Entries.{entries_of, joined, SpelledByEntries, IsSplice, ChangesAreSplices}
use Rattle.apply_core.proofs.Cuts.{Stands, Gap, cut_rows}
use Rattle.apply_core.proofs.Shapes.{ok_of}
use Rattle.apply_core.proofs.Arrays.{around}
use Rattle.apply_core.proofs.Tables.{find_past, find_none, put_past, put_here, put_front, remove_past, removed_entries}

joined_map : {X : Type 0} (f : X → List ℕ) (xs : List X) → joined (map f xs) ≡ flat_map f xs
joined_map f [] = refl
joined_map f (x ∷ xs) = ap (λ (r : List ℕ). f x ++ r) (joined_map f xs)

pub by_entries : SpelledByEntries
by_entries (array e xs) = λ i. header (kind.Array (length xs) e) (sym (length-map xs spelled_datum) i) ++ sym (joined_map spelled_datum xs) i
by_entries (queue e xs) = λ i. header (kind.Queue e) (sym (length-map xs spelled_datum) i) ++ sym (joined_map spelled_datum xs) i
by_entries (table e m) = λ i. header (kind.Table e) ((maps.len-entries m ∙ sym (length-map (maps.entries m) spelled_row)) i) ++ sym (joined_map spelled_row (maps.entries m)) i

map_app : {X Y : Type 0} (f : X → Y) (xs ys : List X) → map f (xs ++ ys) ≡ map f xs ++ map f ys
map_app f [] ys = refl
map_app f (x ∷ xs) ys = ap (λ zs. f x ∷ zs) (map_app f xs ys)

-- some entries in the place of others
splice_of : (old new : Contents) (count : ℕ) (before mid put later : List (List ℕ)) → count ≡ length mid → entries_of old ≡ before ++ (mid ++ later) → entries_of new ≡ before ++ (put ++ later) → IsSplice old new count put
splice_of old new count before mid put later many was is =
    let xs = entries_of old in
    let front : take (length before) xs ≡ before = ap (take (length before)) was ∙ take-append_seam before (mid ++ later) in
    let far : length before + count ≡ length (before ++ mid) = omega (arith, many, length-append before mid) in
    let whole : xs ≡ (before ++ mid) ++ later = was ∙ sym (append_assoc before mid later) in
    let back : drop (length before + count) xs ≡ later = ap (λ n. drop n xs) far ∙ ap (drop (length (before ++ mid))) whole ∙ drop-append_seam (before ++ mid) later in
    record {
      place = length before;
      inside = omega (arith, far, ap length whole, length-append (before ++ mid) later);
      entries = is ∙ sym (append_assoc before put later) ∙ (λ i. (sym front i ++ put) ++ sym back i);
    }

module _ {X : Type 0} (f : X → List ℕ) where
  parted : (before mid later : List X) → map f (before ++ (mid ++ later)) ≡ map f before ++ (map f mid ++ map f later)
  parted before mid later = map_app f before (mid ++ later) ∙ ap (λ (l : List (List ℕ)). map f before ++ l) (map_app f mid later)

  splice_map : (old new : Contents) (count : ℕ) (before mid put later : List X) → count ≡ length mid → entries_of old ≡ map f (before ++ (mid ++ later)) → entries_of new ≡ map f (before ++ (put ++ later)) → IsSplice old new count (map f put)
  splice_map old new count before mid put later many was is =
      splice_of old new count (map f before) (map f mid) (map f put) (map f later) (many ∙ sym (length-map mid f)) (was ∙ parted before mid later) (is ∙ parted before put later)

-- what was done was not refused
of_if : {A : Type 0} (b : Bool) (x new : A) (w : Refusal) → (if b then ok_of x else Err w) ≡ Ok new → (b ≡ true) × (x ≡ new)
of_if true x new w is = (refl, cc)
of_if false x new w is = absurd cc

less_of : (m n : ℕ) → nat_lt m n ≡ true → m < n
less_of m n is = grind (arith, nat_tests, is)

not_done : {A : Type 0} (w : Refusal) (new : A) → Err w ≡ Ok new → ⊥
not_done w new is = cc

set_splice : (old new : Contents) (i : ℕ) (d : Datum) → with_element old i d ≡ Ok new → IsSplice old new 1 (spelled_datum d ∷ [])
set_splice (array e xs) new i d is =
    let done = of_if (nat_lt i (length xs)) (array e (slice_set xs i d)) new Index is in
    let at = around xs i (less_of i (length xs) done.0) in
    splice_map spelled_datum (array e xs) new 1 at.before (at.x ∷ []) (d ∷ []) at.later refl (ap (map spelled_datum) at.parts) (ap entries_of (sym done.1) ∙ ap (map spelled_datum) (at.put d))
set_splice (queue e xs) new i d is = absurd (not_done Index new is)
set_splice (table e m) new i d is = absurd (not_done Index new is)

take_splice : (old new : Contents) → without_oldest old ≡ Ok new → IsSplice old new 1 []
take_splice (array e xs) new is = absurd (not_done Empty new is)
take_splice (queue e []) new is = absurd (omega (arith, less_of 0 0 (of_if (nat_lt 0 0) (queue e []) new Empty is).0))
take_splice (queue e (x ∷ xs)) new is =
    let done = of_if (nat_lt 0 (length (x ∷ xs))) (queue e xs) new Empty is in
    splice_map spelled_datum (queue e (x ∷ xs)) new 1 [] (x ∷ []) [] xs refl refl (ap entries_of (sym done.1))
take_splice (table e m) new is = absurd (not_done Empty new is)

append_splice : (old new : Contents) (d : Datum) → with_newest old d ≡ Ok new → IsSplice old new 0 (spelled_datum d ∷ [])
append_splice (array e xs) new d is = absurd (not_done Full new is)
append_splice (queue e xs) new d is =
    let done = of_if (nat_lt (length xs) most_elements) (queue e (xs ++ d ∷ [])) new Full is in
    splice_map spelled_datum (queue e xs) new 0 xs [] (d ∷ []) [] refl (ap (map spelled_datum) (sym (append-nil xs))) (ap entries_of (sym done.1))
append_splice (table e m) new d is = absurd (not_done Full new is)

store_by : (e : Elem) (m : maps.FinMap text_cmp Datum) (new : Contents) (k : List ℕ) (d : Datum) → table e (maps.insert m k d) ≡ new → Stands (maps.entries m) k ⊎ Gap (maps.entries m) k → (count : ℕ) × (count ≤ 1) × IsSplice (table e m) new count (spelled_row (k, d) ∷ [])
store_by e m new k d is (inl so) =
    let now : maps.entries (maps.insert m k d) ≡ so.before ++ (k, d) ∷ so.later = maps.entries-insert nat_list_cmp_total m k d ∙ ap (λ (l : List (List ℕ × Datum)). put text_cmp k d l) so.parts ∙ put_past k d so.before ((k, so.d) ∷ so.later) so.lower ∙ ap (λ (l : List (List ℕ × Datum)). so.before ++ l) (put_here k d so.d so.later) in
    (1, omega arith, splice_map spelled_row (table e m) new 1 so.before ((k, so.d) ∷ []) ((k, d) ∷ []) so.later refl (ap (map spelled_row) so.parts) (ap entries_of (sym is) ∙ ap (map spelled_row) now))
store_by e m new k d is (inr so) =
    let now : maps.entries (maps.insert m k d) ≡ so.before ++ (k, d) ∷ so.later = maps.entries-insert nat_list_cmp_total m k d ∙ ap (λ (l : List (List ℕ × Datum)). put text_cmp k d l) so.parts ∙ put_past k d so.before so.later so.lower ∙ ap (λ (l : List (List ℕ × Datum)). so.before ++ l) (put_front k d so.later so.higher) in
    (0, omega arith, splice_map spelled_row (table e m) new 0 so.before [] ((k, d) ∷ []) so.later refl (ap (map spelled_row) so.parts) (ap entries_of (sym is) ∙ ap (map spelled_row) now))

store_splice : (old new : Contents) (k : List ℕ) (d : Datum) → with_row old k d ≡ Ok new → (count : ℕ) × (count ≤ 1) × IsSplice old new count (spelled_row (k, d) ∷ [])
store_splice (array e xs) new k d is = absurd (not_done Full new is)
store_splice (queue e xs) new k d is = absurd (not_done Full new is)
store_splice (table e m) new k d is =
    let done = of_if (maps.contains_key m k || nat_lt (maps.len m) most_elements) (table e (maps.insert m k d)) new Full is in
    store_by e m new k d done.1 (cut_rows (maps.entries m) k (maps.entries_sorted m))

true_false : true ≡ false → ⊥
true_false is = cc

erase_by : (e : Elem) (m : maps.FinMap text_cmp Datum) (new : Contents) (k : List ℕ) → maps.contains_key m k ≡ true → table e (maps.remove m k) ≡ new → Stands (maps.entries m) k ⊎ Gap (maps.entries m) k → IsSplice (table e m) new 1 []
erase_by e m new k there is (inl so) =
    let now : maps.entries (maps.remove m k) ≡ so.before ++ so.later = removed_entries m k ∙ ap (λ (l : List (List ℕ × Datum)). remove_entry (is_at (text_cmp k)) l) so.parts ∙ remove_past k so.d so.before so.later so.lower in
    splice_map spelled_row (table e m) new 1 so.before ((k, so.d) ∷ []) [] so.later refl (ap (map spelled_row) so.parts) (ap entries_of (sym is) ∙ ap (map spelled_row) now)
erase_by e m new k there is (inr so) =
    let none : maps.contains_key m k ≡ false = ap is_some (maps.get-entries m k ∙ ap (λ (l : List (List ℕ × Datum)). find text_cmp k l) so.parts ∙ find_past k so.before so.later so.lower ∙ find_none k so.later so.higher) in
    absurd (true_false (sym there ∙ none))

erase_splice : (old new : Contents) (k : List ℕ) → without_key old k ≡ Ok new → IsSplice old new 1 []
erase_splice (array e xs) new k is = absurd (not_done Missing new is)
erase_splice (queue e xs) new k is = absurd (not_done Missing new is)
erase_splice (table e m) new k is =
    let done = of_if (maps.contains_key m k) (table e (maps.remove m k)) new Missing is in
    erase_by e m new k done.0 done.1 (cut_rows (maps.entries m) k (maps.entries_sorted m))

pub splices : ChangesAreSplices
splices old new is k d i = (set_splice old new i d, take_splice old new, append_splice old new d, store_splice old new k d, erase_splice old new k)
