-- The words of the lines of a trace are such words.
use Rattle.std.proofs.Common.{◌≡◌, ℕ, zero, suc, ◌<◌, ◌^◌, ◌/◌, ◌%◌, true, List, [], ◌∷◌, ◌++◌, length, refl, arith, inl, inr, map}
use Rattle.std.specs.Prelude.{All, Some, None, codes, decimal, nat_lt, ◌&&◌, Bool, slice_index, slice_index_or}
use Rattle.std.specs.List.{list_all}
use Rattle.std.proofs.lemmas.Bool.{and_parts}
use Rattle.std.proofs.lemmas.Bool.Decides.{nat_tests}
use Rattle.std.proofs.lemmas.List.Sums.{AllPass-from_list_all}
use Rattle.std.proofs.lemmas.List.Elements.{All-cons, All-nil, All-head, All-tail, All-from_get_or}
use Rattle.std.proofs.lemmas.Str.Parse.{digit_at}
use Rattle.std.proofs.lemmas.Fmt.{digits_decimal, decimal_nonempty}
use Rattle.hex.specs.Hex.{encode_with, encode_lower, lower_digits}
use Rattle.hex.proofs.HexLemmas.{length-encode_with}
use Rattle.value_core.specs.declared.format.Format.TheVariants.{Second}
use Rattle.value_core.specs.declared.datum.Datum.{Datum}
use Rattle.value_core.specs.declared.datum.Datum.TheVariants.{Integer, Text}
use Rattle.value_core.specs.declared.kind.Kind.{Kind}
use Rattle.value_core.specs.Datum.{IsDatum}
use Rattle.value_core.specs.Contents.{Contents, array, queue, table, IsContents}
use Rattle.value_bytes.specs.Spelling.{spelling}
use Rattle.value_bytes.specs.Laws.{AreBytes}
use Rattle.value_bytes.proofs.Bytes.{spelling_is_bytes}
use Rattle.path_tree.specs.Identifier.{IsName, IsLetter, IsWordByte}
use Rattle.decl_core.specs.ObjectForm.{OperationForm, ObjectForm}
use Rattle.decl_core.specs.RefusalWord.{IsRefusalWord}
use Rattle.apply_core.specs.declared.reply.Failure.{Failure}
use Rattle.apply_core.specs.declared.reply.Failure.TheVariants.{Device, Memory, Damaged}
use Rattle.apply_core.specs.declared.reply.Reply.{Reply}
use Rattle.apply_core.specs.declared.reply.Reply.TheVariants.{Done, Refused, Failed}
use Rattle.word_core.specs.Words.{Word}
use Rattle.word_core.specs.Data.{datum_word}
use Rattle.word_core.proofs.Numerals.{digits}
use Rattle.word_core.specs.Events.{Called}
use Rattle.word_core.specs.Text.{failure_word, reply_words, part_words, parts_words, start_words, event_words, front_words, trace_words, TraceLine, call_started, call_ended}
use Rattle.word_core.specs.TraceLaws.{HasNames, IsCallOf, IsReply, IsTold}
use Rattle.word_core.proofs.Plain.{IsSafeByte, IsSafe, IsSafeWord, EachSafe}

-- bytes that are known pass a test that computes
abbrev is_safe : ℕ → Bool
is_safe b = nat_lt 39 b && nat_lt b 127

safe_byte : (b : ℕ) → is_safe b ≡ true → IsSafeByte b
safe_byte b passes = let parts = and_parts (nat_lt 39 b) (nat_lt b 127) passes in let low = parts.0 in let high = parts.1 in (grind (arith, nat_tests), grind (arith, nat_tests))

known : (bytes : List ℕ) → list_all is_safe bytes ≡ true → nat_lt 0 (length bytes) ≡ true → IsSafe bytes
known bytes pass some = record { some = grind (arith, nat_tests); each = λ k d inside. safe_byte _ (AllPass-from_list_all is_safe bytes pass k d inside) }

letter_safe : (b : ℕ) → IsLetter b → IsSafeByte b
letter_safe b (inl lower) = (omega (arith, lower.0), omega (arith, lower.1))
letter_safe b (inr upper) = (omega (arith, upper.0), omega (arith, upper.1))

name_byte : (b : ℕ) → IsWordByte b → IsSafeByte b
name_byte b (inl letter) = letter_safe b letter
name_byte b (inr (inl digit)) = (omega (arith, digit.0), omega (arith, digit.1))
name_byte b (inr (inr same)) = (omega (arith, same), omega (arith, same))

name_safe : (bytes : List ℕ) → IsName bytes → IsSafe bytes
name_safe [] is = absurd is.0
name_safe (b ∷ bytes) is = record { some = omega arith; each = All-cons IsSafeByte b bytes (letter_safe b is.0.0) (λ k d inside. name_byte _ (is.0.1 k d inside)) }

decimal_safe : (n : ℕ) → n < 2 ^ 32 → IsSafe (decimal n)
decimal_safe n few =
    let small : n < 2 ^ 64 = omega (arith, few) in
    record {
      some = decimal_nonempty n small;
      each = All-from_get_or IsSafeByte (decimal n) 0 (λ i within. let h = digit_at (decimal n) i (digits.to (decimal n) (digits_decimal digits n small)) within in (omega (arith, h), omega (arith, h)));
    }

behind_letter : (b : ℕ) (bytes : List ℕ) → IsSafeByte b → IsSafe bytes → IsSafe (b ∷ bytes)
behind_letter b bytes is safe = record { some = omega arith; each = All-cons IsSafeByte b bytes is safe.each }

hex_digits : IsSafe lower_digits
hex_digits = known lower_digits refl refl

hex_digit : (k : ℕ) → k < 16 → IsSafeByte (slice_index lower_digits k)
hex_digit k low = hex_digits.each k 0 low

hex_each : (bytes : List ℕ) → AreBytes bytes → All IsSafeByte (encode_lower bytes)
unfolding encode_with
hex_each [] are = All-nil IsSafeByte
hex_each (b ∷ rest) are =
    let h : b < 256 = are 0 in
    All-cons IsSafeByte (slice_index lower_digits (b / 16)) (slice_index lower_digits (b % 16) ∷ encode_lower rest) (hex_digit (b / 16) (omega (arith, h))) (All-cons IsSafeByte (slice_index lower_digits (b % 16)) (encode_lower rest) (hex_digit (b % 16) (omega (arith, h))) (hex_each rest (λ i. are (suc i))))

spelling_some : (value : Contents) → 0 < length (spelling value)
spelling_some (array e xs) = omega arith
spelling_some (queue e xs) = omega arith
spelling_some (table e m) = omega arith

hex_safe : (value : Contents) → IsContents value → IsSafe (encode_lower (spelling value))
hex_safe value is =
    let some = spelling_some value in
    let twice = length-encode_with lower_digits (spelling value) in
    record { some = omega (arith, some, twice); each = hex_each (spelling value) (spelling_is_bytes Second value is) }

datum_safe : (datum : Datum) → IsDatum datum → IsSafeWord (datum_word datum)
datum_safe (Integer n) is = decimal_safe n is
datum_safe (Text text) is = is

data_safe : (elements : List Datum) → All IsDatum elements → EachSafe (map datum_word elements)
data_safe [] each = tt
data_safe (datum ∷ elements) each = (datum_safe datum (All-head IsDatum datum elements each), data_safe elements (All-tail IsDatum datum elements each))

failure_safe : (failure : Failure) → IsSafe (failure_word failure)
failure_safe Device = known (codes "device") refl refl
failure_safe Memory = known (codes "memory") refl refl
failure_safe Damaged = known (codes "damaged") refl refl

refusal_safe : (word : List ℕ) → IsRefusalWord word → IsSafe word
refusal_safe word is = record { some = omega (arith, is.some); each = λ k d inside. let h = is.lower k d inside in (omega (arith, h.0), omega (arith, h.1)) }

done_safe : IsSafe (codes "done")
done_safe = known (codes "done") refl refl

reply_safe : (reply : Reply) → IsReply reply → EachSafe (reply_words reply)
reply_safe (Done None) is = (done_safe, tt)
reply_safe (Done (Some datum)) is = (done_safe, (datum_safe datum is, tt))
reply_safe (Refused word) is = (known (codes "refused") refl refl, (refusal_safe word is, tt))
reply_safe (Failed failure) is = (known (codes "failed") refl refl, (failure_safe failure, tt))

operation_safe : (operations : List OperationForm) (place : ℕ) → All (λ f. IsName f.name) operations → place < length operations → IsSafe (slice_index_or (map (λ f. f.name) operations) place [])
operation_safe [] place names within = absurd (omega arith)
operation_safe (x ∷ operations) zero names within = name_safe x.name (All-head (λ f. IsName f.name) x operations names)
operation_safe (x ∷ operations) (suc place) names within = operation_safe operations place (All-tail (λ f. IsName f.name) x operations names) (omega arith)

start_safe : (o : ObjectForm) (c : Called) → HasNames o → IsCallOf o c → EachSafe (start_words o c)
start_safe o c named is = (
  known (codes "start") refl refl,
  (
    decimal_safe c.number is.number,
    (
      behind_letter 115 (decimal c.session) (omega arith, omega arith) (decimal_safe c.session is.session),
      (operation_safe o.operations c.operation named.operations is.operation, data_safe c.arguments is.arguments),
    ),
  ),
)

event_safe : (o : ObjectForm) (event : TraceLine) → HasNames o → IsTold o event → EachSafe (event_words o event)
event_safe o (call_started c) named is = start_safe o c named is
event_safe o (call_ended number reply) named is = (known (codes "end") refl refl, (decimal_safe number is.0, reply_safe reply is.1))

-- each line has such words
abbrev pub EachLine : List (List Word) → Type 0
EachLine [] = Unit {0}
EachLine (words ∷ more) = EachSafe words × EachLine more

events_safe : (o : ObjectForm) (events : List TraceLine) → HasNames o → All (IsTold o) events → EachLine (map (event_words o) events)
events_safe o [] named each = tt
events_safe o (event ∷ events) named each = (event_safe o event named (All-head (IsTold o) event events each), events_safe o events named (All-tail (IsTold o) event events each))

both : (first second : List (List Word)) → EachLine first → EachLine second → EachLine (first ++ second)
both [] second a b = b
both (words ∷ first) second a b = (a.0, both first second a.1 b)

part_safe : (name : List ℕ) (value : Contents) → IsName name → IsContents value → EachSafe (part_words name value)
part_safe name value named is = (known (codes "part") refl refl, (name_safe name named, (hex_safe value is, tt)))

parts_safe : (parts : List (List ℕ × Kind)) (opening : List Contents) → All (λ p. IsName p.0) parts → All IsContents opening → EachLine (parts_words parts opening)
parts_safe [] opening named each = tt
parts_safe (part ∷ parts) [] named each = tt
parts_safe (part ∷ parts) (value ∷ opening) named each = (
  part_safe part.0 value (All-head (λ p. IsName p.0) part parts named) (All-head IsContents value opening each),
  parts_safe parts opening (All-tail (λ p. IsName p.0) part parts named) (All-tail IsContents value opening each),
)

pub trace_safe : (o : ObjectForm) (opening : List Contents) (events : List TraceLine) → HasNames o → All IsContents opening → All (IsTold o) events → EachLine (trace_words o opening events)
trace_safe o opening events named each told =
    both (front_words o opening) (map (event_words o) events) ((known (codes "object") refl refl, (name_safe o.name named.own, tt)), parts_safe o.parts opening named.parts each) (events_safe o events named told)
