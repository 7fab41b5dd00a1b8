-- A spelling is bytes.
use Rattle.std.proofs.Common.{ℕ, zero, suc, ◌<◌, ◌≤◌, ◌/◌, ◌%◌, ◌^◌, List, [], ◌∷◌, ◌++◌, length, arith}
use Rattle.std.specs.Prelude.{All}
use Rattle.std.specs.List.{flat_map}
use Rattle.std.specs.Int.{w16, byte_at, bytes_high_first, to_be_bytes}
use Rattle.std.specs.FinMap as map
use Rattle.std.proofs.lemmas.List.Elements.{All-append, All-cons, All-nil, All-head, All-tail}
use Rattle.value_core.specs.declared.format.Format.{Format}
use Rattle.value_core.specs.declared.format.Format.TheVariants.{First, Second}
use Rattle.value_core.specs.Format.{most_text, IsTextIn}
use Rattle.value_bytes.specs.Format.{number_of, spelled_length}
use Rattle.value_core.specs.declared.datum.Datum.{Datum}
use Rattle.value_core.specs.declared.datum.Datum.TheVariants as datum
use Rattle.value_core.specs.declared.kind.Elem.{Elem}
use Rattle.value_core.specs.declared.kind.Elem.TheVariants as elem
use Rattle.value_core.specs.declared.kind.Kind.{Kind}
use Rattle.value_core.specs.declared.kind.Kind.TheVariants as kind
use Rattle.value_core.specs.Datum.{IsElementIn}
use Rattle.value_core.specs.Contents.{array, queue, table, IsRowIn}
use Rattle.value_bytes.specs.Spelling.{spelled_text_in, spelled_datum_in, spelled_row_in, code_of, header_in}
use Rattle.value_bytes.specs.Laws.{AreBytes, SpellingIsBytes}

abbrev IsByte : ℕ → Type 0
IsByte b = b < 256

pub are_bytes : (bytes : List ℕ) → All IsByte bytes → AreBytes bytes
are_bytes [] each i = omega arith
are_bytes (b ∷ bytes) each zero = All-head IsByte b bytes each
are_bytes (b ∷ bytes) each (suc i) = are_bytes bytes (All-tail IsByte b bytes each) i

left_small : (n : ℕ) → n % 256 < 256
left_small n = omega arith

byte_small : (k n : ℕ) → byte_at k n < 256
byte_small zero n = left_small n
byte_small (suc k) n = left_small (n / 256 ^ suc k)

high_first : (k n : ℕ) → All IsByte (bytes_high_first k n)
high_first zero n = All-nil IsByte
high_first (suc k) n = All-cons IsByte (byte_at k n) (bytes_high_first k n) (byte_small k n) (high_first k n)

length_bytes : (f : Format) (n : ℕ) → n ≤ most_text f → All IsByte (spelled_length f n)
length_bytes First n few = All-cons IsByte n [] (omega (arith, few)) (All-nil IsByte)
length_bytes Second n few = high_first 2 n

number_small : (f : Format) → number_of f < 256
number_small First = omega arith
number_small Second = omega arith

each_bytes : {X : Type 0} (P : X → Type 0) (spell : X → List ℕ) → ((x : X) → P x → All IsByte (spell x)) → (xs : List X) → All P xs → All IsByte (flat_map spell xs)
each_bytes P spell one [] each = All-nil IsByte
each_bytes P spell one (x ∷ xs) each = All-append IsByte (spell x) (flat_map spell xs) (one x (All-head P x xs each)) (each_bytes P spell one xs (All-tail P x xs each))

code_small : (k : Kind) → code_of k < 256
code_small (kind.Array n elem.Integer) = omega arith
code_small (kind.Array n elem.Text) = omega arith
code_small (kind.Queue elem.Integer) = omega arith
code_small (kind.Queue elem.Text) = omega arith
code_small (kind.Table elem.Integer) = omega arith
code_small (kind.Table elem.Text) = omega arith

module _ (f : Format) where
  text_bytes : (t : List ℕ) → IsTextIn f t → All IsByte (spelled_text_in f t)
  text_bytes t is = All-append IsByte (spelled_length f (length t)) t (length_bytes f (length t) is.few) (λ k d inside. omega (arith, (is.plain k d inside).1))

  datum_bytes : (e : Elem) (d : Datum) → IsElementIn f e d → All IsByte (spelled_datum_in f d)
  datum_bytes e (datum.Integer n) is = high_first 4 n
  datum_bytes e (datum.Text t) is = text_bytes t is.datum

  row_bytes : (e : Elem) (row : List ℕ × Datum) → IsRowIn f e row → All IsByte (spelled_row_in f row)
  row_bytes e row is = All-append IsByte (spelled_text_in f row.0) (spelled_datum_in f row.1) (text_bytes row.0 is.key) (datum_bytes e row.1 is.element)

  header_bytes : (k : Kind) (count : ℕ) → All IsByte (header_in f k count)
  header_bytes k count =
      All-cons IsByte (number_of f) (code_of k ∷ to_be_bytes w16 count) (number_small f) (All-cons IsByte (code_of k) (to_be_bytes w16 count) (code_small k) (high_first 2 count))

  whole : (k : Kind) (count : ℕ) (behind : List ℕ) → All IsByte behind → AreBytes (header_in f k count ++ behind)
  whole k count behind each = are_bytes (header_in f k count ++ behind) (All-append IsByte (header_in f k count) behind (header_bytes k count) each)

pub spelling_is_bytes : SpellingIsBytes
spelling_is_bytes f (array e xs) is = whole f (kind.Array (length xs) e) (length xs) (flat_map (spelled_datum_in f) xs) (each_bytes (IsElementIn f e) (spelled_datum_in f) (datum_bytes f e) xs is.each)
spelling_is_bytes f (queue e xs) is = whole f (kind.Queue e) (length xs) (flat_map (spelled_datum_in f) xs) (each_bytes (IsElementIn f e) (spelled_datum_in f) (datum_bytes f e) xs is.each)
spelling_is_bytes f (table e m) is = whole f (kind.Table e) (map.len m) (flat_map (spelled_row_in f) (map.entries m)) (each_bytes (IsRowIn f e) (spelled_row_in f) (row_bytes f e) (map.entries m) is.each)
