-- Values of parts, and sources, are read from their words.
use Rattle.std.proofs.Common.{◌≡◌, ℕ, ◌<◌, ◌^◌, List, sym, ap, ◌∙◌}
use Rattle.std.specs.Prelude.{Option, Some, None, option_map, IfSome, Result, Ok}
use Rattle.std.specs.Int.{w64, to_be_bytes}
use Rattle.hex.specs.Hex.{encode_lower, decode_of}
use Rattle.hex.proofs.HexLemmas.{decode_of-encode_lower}
use Rattle.value_core.specs.declared.kind.Kind.{Kind}
use Rattle.value_core.specs.declared.format.Format.TheVariants.{Second}
use Rattle.value_core.specs.Contents.{Contents}
use Rattle.value_bytes.specs.Spelling.{spelling, Spells}
use Rattle.value_bytes.proofs.Bytes.{spelling_is_bytes}
use Rattle.value_bytes.proofs.Unique.{unique_in}
use Rattle.word_core.specs.Text.{part_words}
use Rattle.word_core.specs.Words.{Word}
use Rattle.live_core.specs.Front.{IsLong}
use Rattle.live_core.specs.Text.{source_words}
use Rattle.front_read.specs.Words.{hex_of, hash_of}
use Rattle.front_read.specs.Rows.{Finds}
use Rattle.front_read.specs.Parts.{IsValueOf, IsHexOf}
use Rattle.front_read.proofs.Calling.{some_same, not_some}
use Rattle.front_read.proofs.Clear.{long_bytes}

pub ok_same : {X E : Type 0} (x y : X) → ◌≡◌ {A = Result X E} (Ok x) (Ok y) → x ≡ y
ok_same x y is = cc

spelled_bytes : (word bytes : List ℕ) (kind : Kind) (value : Contents) → decode_of word ≡ Ok bytes → IsValueOf kind value → word ≡ encode_lower (spelling value) → bytes ≡ spelling value
spelled_bytes word bytes kind value read is same = ok_same bytes (spelling value) (sym read ∙ ap decode_of same ∙ decode_of-encode_lower (spelling value) (spelling_is_bytes Second value is.0))

pub value_read : (word bytes : List ℕ) (kind : Kind) (value : Contents) → decode_of word ≡ Ok bytes → Spells bytes kind value → IsHexOf kind word (Some value)
value_read word bytes kind value read spells = (
  (λ x is same. ap Some (unique_in Second Second bytes kind kind value x spells (record { kind = is.1; contents = is.0; spelled = spelled_bytes word bytes kind x read is same })).1),
  (spells.contents, spells.kind),
)

pub no_value : (word bytes : List ℕ) (kind : Kind) → decode_of word ≡ Ok bytes → ((value : Contents) → Spells bytes kind value → ⊥) → IsHexOf kind word None
no_value word bytes kind read none =
    ((λ x is same. absurd (none x (record { kind = is.1; contents = is.0; spelled = spelled_bytes word bytes kind x read is same }))), tt)

pub no_hex : (word : List ℕ) (kind : Kind) → ((bytes : List ℕ) → decode_of word ≡ Ok bytes → ⊥) → IsHexOf kind word None
no_hex word kind none =
    ((λ x is same. absurd (none (spelling x) (ap decode_of same ∙ decode_of-encode_lower (spelling x) (spelling_is_bytes Second x is.0)))), tt)

-- the value of a part
pub part_found : (ws : List Word) (hex : List ℕ) (kind : Kind) (found : Option Contents) → ◌≡◌ {A = Option (List ℕ)} (Some hex) (hex_of ws) → IsHexOf kind hex found → (name : List ℕ) → Finds (IsValueOf kind) (part_words name) (λ v. v) ws found
part_found ws hex kind found word told name =
    ((λ x is same. ap (option_map (λ v. v)) (told.0 x is (some_same (word ∙ ap hex_of same)))), told.1)

pub no_part : (ws : List Word) (kind : Kind) → ◌≡◌ {A = Option (List ℕ)} None (hex_of ws) → (name : List ℕ) → Finds {X = Contents} (IsValueOf kind) (part_words name) (λ v. v) ws None
no_part ws kind none name = ((λ x is same. absurd (not_some (encode_lower (spelling x)) (none ∙ ap hex_of same))), tt)

-- the source
hash_bytes : (ws : List Word) (hash bytes : List ℕ) (x : ℕ) → ◌≡◌ {A = Option (List ℕ)} (Some hash) (hash_of ws) → decode_of hash ≡ Ok bytes → ws ≡ source_words x → bytes ≡ to_be_bytes w64 x
hash_bytes ws hash bytes x word read same =
    let is : hash ≡ encode_lower (to_be_bytes w64 x) = some_same (word ∙ ap hash_of same) in
    ok_same bytes (to_be_bytes w64 x) (sym read ∙ ap decode_of is ∙ decode_of-encode_lower (to_be_bytes w64 x) (long_bytes x))

pub source_found : (ws : List Word) (hash bytes slice : List ℕ) (found : Option ℕ) → ◌≡◌ {A = Option (List ℕ)} (Some hash) (hash_of ws) → decode_of hash ≡ Ok bytes → slice ≡ bytes → ((n : ℕ) → n < 2 ^ 64 → slice ≡ to_be_bytes w64 n → found ≡ Some n)
    → IfSome found (λ n. n < 2 ^ 64) → Finds IsLong source_words (λ n. n) ws found
source_found ws hash bytes slice found word read same told fits =
    ((λ x is equal. ap (option_map (λ (n : ℕ). n)) (told x is (same ∙ hash_bytes ws hash bytes x word read equal))), fits)

pub no_bytes : (ws : List Word) (hash : List ℕ) → ◌≡◌ {A = Option (List ℕ)} (Some hash) (hash_of ws) → ((bytes : List ℕ) → decode_of hash ≡ Ok bytes → ⊥) → Finds {X = ℕ} IsLong source_words (λ n. n) ws None
no_bytes ws hash word none =
    ((λ x is equal. absurd (none (to_be_bytes w64 x) (ap decode_of (some_same (word ∙ ap hash_of equal)) ∙ decode_of-encode_lower (to_be_bytes w64 x) (long_bytes x)))), tt)
