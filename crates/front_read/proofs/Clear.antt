-- What is written in a front stands on one line.
use Rattle.std.proofs.Common.{◌≡◌, false, ℕ, zero, suc, ◌<◌, ◌^◌, ◌/◌, ◌%◌, true, List, [], ◌∷◌, ◌++◌, length, refl, arith, inl, inr, map}
use Rattle.std.specs.Prelude.{All, Some, None, codes, decimal, nat_lt, ◌&&◌, ◌==◌, Bool, slice_index, slice_index_or}
use Rattle.std.specs.List.{list_all}
use Rattle.std.proofs.lemmas.Bool.{and_parts}
use Rattle.std.proofs.lemmas.Bool.Decides.{nat_tests}
use Rattle.std.proofs.lemmas.List.Sums.{AllPass-from_list_all}
use Rattle.std.proofs.lemmas.List.Elements.{All-cons, All-nil, All-head, All-tail, All-from_get_or}
use Rattle.std.proofs.lemmas.Str.Parse.{digit_at}
use Rattle.std.proofs.lemmas.Fmt.{digits_decimal, decimal_nonempty}
use Rattle.hex.specs.Hex.{encode_with, encode_lower, lower_digits}
use Rattle.hex.proofs.HexLemmas.{length-encode_with}
use Rattle.value_core.specs.declared.format.Format.TheVariants.{Second}
use Rattle.value_core.specs.declared.datum.Datum.{Datum}
use Rattle.value_core.specs.declared.datum.Datum.TheVariants.{Integer, Text}
use Rattle.value_core.specs.declared.kind.Kind.{Kind}
use Rattle.value_core.specs.Datum.{IsDatum}
use Rattle.value_core.specs.Contents.{Contents, array, queue, table, IsContents}
use Rattle.value_bytes.specs.Spelling.{spelling}
use Rattle.value_bytes.specs.Laws.{AreBytes}
use Rattle.value_bytes.proofs.Bytes.{spelling_is_bytes}
use Rattle.path_tree.specs.Identifier.{IsName, IsLetter, IsWordByte}
use Rattle.decl_core.specs.ObjectForm.{OperationForm, ObjectForm}
use Rattle.decl_core.specs.RefusalWord.{IsRefusalWord}
use Rattle.apply_core.specs.declared.reply.Failure.{Failure}
use Rattle.apply_core.specs.declared.reply.Failure.TheVariants.{Device, Memory, Damaged}
use Rattle.apply_core.specs.declared.reply.Reply.{Reply}
use Rattle.apply_core.specs.declared.reply.Reply.TheVariants.{Done, Refused, Failed}
use Rattle.value_core.specs.Plain.{IsPlain}
use Rattle.value_core.specs.Runs.{NoLineFeed}
use Rattle.word_core.specs.Words.{Word, words_text}
use Rattle.word_core.specs.Data.{datum_word, session_word}
use Rattle.word_core.proofs.Numerals.{digits}
use Rattle.word_core.specs.Text.{failure_word, reply_words, part_words}
use Rattle.word_core.specs.TraceLaws.{HasNames, IsReply}
use Rattle.word_core.proofs.Plain.{IsSafeByte, IsSafe, IsSafeWord, EachSafe, words_plain}
use Rattle.std.specs.Int.{w64, to_be_bytes}
use Rattle.word_core.specs.Text.{operation_name}
use Rattle.live_core.specs.declared.past.PastRun.{PastRun}
use Rattle.live_core.specs.declared.past.PastRun.TheVariants.{Calls, Begins, Ends}
use Rattle.live_core.specs.declared.front.CarriedCall.{CarriedCall}
use Rattle.live_core.specs.declared.front.NamedClient.{NamedClient}
use Rattle.live_core.specs.declared.front.KeptCall.{KeptCall}
use Rattle.live_core.specs.declared.front.Answer.{Answer}
use Rattle.live_core.specs.declared.front.Answer.TheVariants.{Replied, Cancelled}
use Rattle.live_core.specs.Front.{IsOperation, IsCall, IsKey, IsLong, IsRun, IsCarried, IsClient, IsKept, IsAnswer}
use Rattle.live_core.specs.Text.{object_words, source_words, base_words, run_words, call_words, carried_words, client_words, answer_words, kept_words}
use Rattle.front_read.specs.Parts.{IsValueOf}
use Rattle.front_read.specs.Rows.{row_words}
use Rattle.front_read.proofs.Calling.{all_of}

-- bytes that are known pass a test that computes
abbrev is_safe : ℕ → Bool
is_safe b = nat_lt 39 b && nat_lt b 127

safe_byte : (b : ℕ) → is_safe b ≡ true → IsSafeByte b
safe_byte b passes = let parts = and_parts (nat_lt 39 b) (nat_lt b 127) passes in let low = parts.0 in let high = parts.1 in (grind (arith, nat_tests), grind (arith, nat_tests))

pub known : (bytes : List ℕ) → list_all is_safe bytes ≡ true → nat_lt 0 (length bytes) ≡ true → IsSafe bytes
known bytes pass some = record { some = grind (arith, nat_tests); each = λ k d inside. safe_byte _ (AllPass-from_list_all is_safe bytes pass k d inside) }

letter_safe : (b : ℕ) → IsLetter b → IsSafeByte b
letter_safe b (inl lower) = (omega (arith, lower.0), omega (arith, lower.1))
letter_safe b (inr upper) = (omega (arith, upper.0), omega (arith, upper.1))

name_byte : (b : ℕ) → IsWordByte b → IsSafeByte b
name_byte b (inl letter) = letter_safe b letter
name_byte b (inr (inl digit)) = (omega (arith, digit.0), omega (arith, digit.1))
name_byte b (inr (inr same)) = (omega (arith, same), omega (arith, same))

pub name_safe : (bytes : List ℕ) → IsName bytes → IsSafe bytes
name_safe [] is = absurd is.0
name_safe (b ∷ bytes) is = record { some = omega arith; each = All-cons IsSafeByte b bytes (letter_safe b is.0.0) (λ k d inside. name_byte _ (is.0.1 k d inside)) }

pub decimal_safe : (n : ℕ) → n < 2 ^ 64 → IsSafe (decimal n)
decimal_safe n small =
    record {
      some = decimal_nonempty n small;
      each = All-from_get_or IsSafeByte (decimal n) 0 (λ i within. let h = digit_at (decimal n) i (digits.to (decimal n) (digits_decimal digits n small)) within in (omega (arith, h), omega (arith, h)));
    }

pub behind_letter : (b : ℕ) (bytes : List ℕ) → IsSafeByte b → IsSafe bytes → IsSafe (b ∷ bytes)
behind_letter b bytes is safe = record { some = omega arith; each = All-cons IsSafeByte b bytes is safe.each }

hex_digits : IsSafe lower_digits
hex_digits = known lower_digits refl refl

hex_digit : (k : ℕ) → k < 16 → IsSafeByte (slice_index lower_digits k)
hex_digit k low = hex_digits.each k 0 low

hex_each : (bytes : List ℕ) → AreBytes bytes → All IsSafeByte (encode_lower bytes)
unfolding encode_with
hex_each [] are = All-nil IsSafeByte
hex_each (b ∷ rest) are =
    let h : b < 256 = are 0 in
    All-cons IsSafeByte (slice_index lower_digits (b / 16)) (slice_index lower_digits (b % 16) ∷ encode_lower rest) (hex_digit (b / 16) (omega (arith, h))) (All-cons IsSafeByte (slice_index lower_digits (b % 16)) (encode_lower rest) (hex_digit (b % 16) (omega (arith, h))) (hex_each rest (λ i. are (suc i))))

spelling_some : (value : Contents) → 0 < length (spelling value)
spelling_some (array e xs) = omega arith
spelling_some (queue e xs) = omega arith
spelling_some (table e m) = omega arith

pub hex_safe : (value : Contents) → IsContents value → IsSafe (encode_lower (spelling value))
hex_safe value is =
    let some = spelling_some value in
    let twice = length-encode_with lower_digits (spelling value) in
    record { some = omega (arith, some, twice); each = hex_each (spelling value) (spelling_is_bytes Second value is) }

datum_safe : (datum : Datum) → IsDatum datum → IsSafeWord (datum_word datum)
datum_safe (Integer n) is = decimal_safe n (omega (arith, is))
datum_safe (Text text) is = is

pub data_safe : (elements : List Datum) → All IsDatum elements → EachSafe (map datum_word elements)
data_safe [] each = tt
data_safe (datum ∷ elements) each = (datum_safe datum (All-head IsDatum datum elements each), data_safe elements (All-tail IsDatum datum elements each))

failure_safe : (failure : Failure) → IsSafe (failure_word failure)
failure_safe Device = known (codes "device") refl refl
failure_safe Memory = known (codes "memory") refl refl
failure_safe Damaged = known (codes "damaged") refl refl

refusal_safe : (word : List ℕ) → IsRefusalWord word → IsSafe word
refusal_safe word is = record { some = omega (arith, is.some); each = λ k d inside. let h = is.lower k d inside in (omega (arith, h.0), omega (arith, h.1)) }

done_safe : IsSafe (codes "done")
done_safe = known (codes "done") refl refl

pub reply_safe : (reply : Reply) → IsReply reply → EachSafe (reply_words reply)
reply_safe (Done None) is = (done_safe, tt)
reply_safe (Done (Some datum)) is = (done_safe, (datum_safe datum is, tt))
reply_safe (Refused word) is = (known (codes "refused") refl refl, (refusal_safe word is, tt))
reply_safe (Failed failure) is = (known (codes "failed") refl refl, (failure_safe failure, tt))

pub operation_safe : (operations : List OperationForm) (place : ℕ) → All (λ f. IsName f.name) operations → place < length operations → IsSafe (slice_index_or (map (λ f. f.name) operations) place [])
operation_safe [] place names within = absurd (omega arith)
operation_safe (x ∷ operations) zero names within = name_safe x.name (All-head (λ f. IsName f.name) x operations names)
operation_safe (x ∷ operations) (suc place) names within = operation_safe operations place (All-tail (λ f. IsName f.name) x operations names) (omega arith)

-- no line ends in what such words are written as
other : (b c : ℕ) → IsPlain b → c < 32 → (b == c) ≡ false
other b c is low = let h = is.0 in grind (arith, nat_tests)

pub no_feed : (ws : List Word) → EachSafe ws → NoLineFeed (words_text ws)
no_feed ws safe = let plain = words_plain ws safe in λ k d inside. other _ 10 (plain k d inside) (omega arith)

session_safe : (n : ℕ) → n < 2 ^ 64 → IsSafeWord (session_word n)
session_safe n small = behind_letter 115 (decimal n) (omega arith, omega arith) (decimal_safe n small)

call_safe : (o : ObjectForm) (op : ℕ) (arguments : List Datum) → HasNames o → IsCall o op arguments → EachSafe (call_words o op arguments)
call_safe o op arguments named is = (operation_safe o.operations op named.operations is.operation.there, data_safe arguments (all_of IsDatum arguments is.each))

both_safe : (a b : List Word) → EachSafe a → EachSafe b → EachSafe (a ++ b)
both_safe [] b p q = q
both_safe (w ∷ a) b p q = (p.0, both_safe a b p.1 q)

named_safe : (o : ObjectForm) (op : ℕ) → HasNames o → IsOperation o op → IsSafe (operation_name o op)
named_safe o op named is = operation_safe o.operations op named.operations is.there

pub object_clear : (name : List ℕ) → IsName name → (epoch : ℕ) → IsKey epoch → EachSafe (object_words name epoch)
object_clear name named epoch is = (known (codes "object") refl refl, (name_safe name named, (known (codes "epoch") refl refl, (decimal_safe epoch is.1, tt))))

source_hex : (bytes : List ℕ) → AreBytes bytes → 0 < length bytes → IsSafe (encode_lower bytes)
source_hex bytes are some =
    let twice = length-encode_with lower_digits bytes in
    record { some = omega (arith, some, twice); each = hex_each bytes are }

pub long_bytes : (n : ℕ) → AreBytes (to_be_bytes w64 n)
long_bytes n zero = omega arith
long_bytes n (suc zero) = omega arith
long_bytes n (suc (suc zero)) = omega arith
long_bytes n (suc (suc (suc zero))) = omega arith
long_bytes n (suc (suc (suc (suc zero)))) = omega arith
long_bytes n (suc (suc (suc (suc (suc zero))))) = omega arith
long_bytes n (suc (suc (suc (suc (suc (suc zero)))))) = omega arith
long_bytes n (suc (suc (suc (suc (suc (suc (suc zero))))))) = omega arith
long_bytes n (suc (suc (suc (suc (suc (suc (suc (suc i)))))))) = omega arith

pub source_clear : (source : ℕ) → IsLong source → EachSafe (source_words source)
source_clear source is = (known (codes "source") refl refl, (source_hex (to_be_bytes w64 source) (long_bytes source) (omega arith), tt))

pub base_clear : (base : ℕ) → IsLong base → EachSafe (base_words base)
base_clear base is = (known (codes "base") refl refl, (decimal_safe base is, tt))

pub part_clear : (name : List ℕ) (kind : Kind) → IsName name → (value : Contents) → IsValueOf kind value → EachSafe (part_words name value)
part_clear name kind named value is = (known (codes "part") refl refl, (name_safe name named, (hex_safe value is.0, tt)))

pub run_clear : (o : ObjectForm) → HasNames o → (run : PastRun) → IsRun o run → EachSafe (row_words (codes "past") (run_words o) run)
run_clear o named (Calls op count) is = (known (codes "past") refl refl, (named_safe o op named is.0, (decimal_safe count (omega (arith, is.1.1)), tt)))
run_clear o named (Begins op) is = (known (codes "past") refl refl, (known (codes "begin") refl refl, (named_safe o op named is, tt)))
run_clear o named (Ends op) is = (known (codes "past") refl refl, (known (codes "end") refl refl, (named_safe o op named is, tt)))

pub carried_clear : (o : ObjectForm) → HasNames o → (c : CarriedCall) → IsCarried o c → EachSafe (row_words (codes "carried") (carried_words o) c)
carried_clear o named c is = (
  known (codes "carried") refl refl,
  (
    decimal_safe c.number (omega (arith, is.number.1)),
    (decimal_safe c.told is.told, (session_safe c.session (omega (arith, is.session.1)), call_safe o c.operation c.arguments named is.call)),
  ),
)

pub client_clear : (c : NamedClient) → IsClient c → EachSafe (row_words (codes "client") client_words c)
client_clear c is = (known (codes "client") refl refl, (session_safe c.session (omega (arith, is.session.1)), (name_safe c.name is.name, (decimal_safe c.keys is.keys, tt))))

answer_safe : (answer : Answer) → IsAnswer answer → EachSafe (answer_words answer)
answer_safe (Replied reply) is = reply_safe reply is
answer_safe Cancelled is = (known (codes "cancelled") refl refl, tt)

pub kept_clear : (o : ObjectForm) → HasNames o → (k : KeptCall) → IsKept o k → EachSafe (row_words (codes "kept") (kept_words o) k)
kept_clear o named k is = (
  known (codes "kept") refl refl,
  (
    session_safe k.session (omega (arith, is.session.1)),
    (
      decimal_safe k.key is.key.1,
      (decimal_safe k.told is.told, both_safe (answer_words k.answer) (call_words o k.operation k.arguments) (answer_safe k.answer is.answer) (call_safe o k.operation k.arguments named is.call)),
    ),
  ),
)

-- operations have names
pub named_is : (operations : List OperationForm) (place : ℕ) → All (λ f. IsName f.name) operations → place < length operations → IsName (slice_index_or (map (λ f. f.name) operations) place [])
named_is [] place names within = absurd (omega arith)
named_is (x ∷ operations) zero names within = All-head (λ f. IsName f.name) x operations names
named_is (x ∷ operations) (suc place) names within = named_is operations place (All-tail (λ f. IsName f.name) x operations names) (omega arith)
