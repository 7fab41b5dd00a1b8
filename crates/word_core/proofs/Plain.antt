-- Words of bytes above the apostrophe, and texts: their lines have no control byte.
use Rattle.std.proofs.Common.{◌≡◌, ◌≢◌, ℕ, ◌-◌, ◌<◌, ◌≤◌, false, List, [], ◌∷◌, ◌++◌, length, refl, sym, ap, subst, ◌∙◌, append_assoc, arith, inl, inr, ◌==◌}
use Rattle.std.specs.Prelude.{All, slice_index}
use Rattle.std.specs.Str.Lines.{lines, strip_carriage_return}
use Rattle.std.proofs.lemmas.Bool.{cases_eq}
use Rattle.std.proofs.lemmas.Bool.Decides.{nat_tests}
use Rattle.std.proofs.lemmas.List.Elements.{All-append, All-cons, All-nil, All-head, All-tail}
use Rattle.value_core.specs.Plain.{IsPlain, IsText}
use Rattle.value_core.specs.Runs.{NoLineFeed}
use Rattle.value_core.proofs.Cutting.{lines-at}
use Rattle.word_core.specs.Words.{Word, bare, quoted, doubled, word_text, IsWord, EachWord, behind_word, words_text, line_of}
use Rattle.word_core.proofs.Quoting.{twice, once}

-- above the apostrophe, and no control byte
abbrev pub IsSafeByte : ℕ → Type 0
IsSafeByte b = (40 ≤ b) × (b ≤ 126)

pub record IsSafe (bytes : List ℕ) : Type 0 where
  pub some : 0 < length bytes
  pub each : All IsSafeByte bytes

abbrev pub IsSafeWord : Word → Type 0
IsSafeWord (bare bytes) = IsSafe bytes
IsSafeWord (quoted text) = IsText text

abbrev pub EachSafe : List Word → Type 0
EachSafe [] = Unit {0}
EachSafe (word ∷ more) = IsSafeWord word × EachSafe more

apart : (b other : ℕ) → IsSafeByte b → other < 40 → b ≢ other
apart b other is low same = absurd (omega (arith, is.0, same))

safe_is_word : (bytes : List ℕ) → IsSafe bytes → IsWord (bare bytes)
safe_is_word [] is = absurd (omega (arith, is.some))
safe_is_word (b ∷ bytes) is = (apart b 39 (All-head IsSafeByte b bytes is.each) (omega arith), λ k d inside. apart _ 32 (is.each k d inside) (omega arith))

word_is : (word : Word) → IsSafeWord word → IsWord word
word_is (bare bytes) is = safe_is_word bytes is
word_is (quoted text) is = is

pub each_word : (words : List Word) → EachSafe words → EachWord words
each_word [] each = tt
each_word (word ∷ more) each = (word_is word each.0, each_word more each.1)

quote_plain : IsPlain 39
quote_plain = (omega arith, omega arith)

doubled_plain : (text : List ℕ) → All IsPlain text → All IsPlain (doubled text)
doubled_plain [] plain = All-nil IsPlain
doubled_plain (b ∷ text) plain =
    let behind = doubled_plain text (All-tail IsPlain b text plain) in
    elim (cases_eq b 39) [
      | inl is ↦ subst (All IsPlain) (sym (twice b text is)) (All-cons IsPlain 39 (39 ∷ doubled text) quote_plain (All-cons IsPlain 39 (doubled text) quote_plain behind))
      | inr isnt ↦ subst (All IsPlain) (sym (once b text isnt)) (All-cons IsPlain b (doubled text) (All-head IsPlain b text plain) behind)
    ]

word_plain : (word : Word) → IsSafeWord word → All IsPlain (word_text word)
word_plain (bare bytes) is = λ k d inside. let h = is.each k d inside in (omega (arith, h.0), h.1)
word_plain (quoted text) is =
    All-cons IsPlain 39 (doubled text ++ 39 ∷ []) quote_plain (All-append IsPlain (doubled text) (39 ∷ []) (doubled_plain text is.plain) (All-cons IsPlain 39 [] quote_plain (All-nil IsPlain)))

behind_plain : (words : List Word) → EachSafe words → All IsPlain (behind_word words)
behind_plain [] each = All-nil IsPlain
behind_plain (word ∷ more) each =
    All-cons IsPlain 32 (word_text word ++ behind_word more) (omega arith, omega arith) (All-append IsPlain (word_text word) (behind_word more) (word_plain word each.0) (behind_plain more each.1))

pub words_plain : (words : List Word) → EachSafe words → All IsPlain (words_text words)
words_plain [] each = All-nil IsPlain
words_plain (word ∷ more) each = All-append IsPlain (word_text word) (behind_word more) (word_plain word each.0) (behind_plain more each.1)

other : (b c : ℕ) → IsPlain b → c < 32 → (b == c) ≡ false
other b c is low = let h = is.0 in grind (arith, nat_tests)

no_feed : (bytes : List ℕ) → All IsPlain bytes → NoLineFeed bytes
no_feed bytes plain k d inside = other _ 10 (plain k d inside) (omega arith)

kept : (bytes : List ℕ) → All IsPlain bytes → strip_carriage_return bytes ≡ bytes
kept [] plain = refl
kept (b ∷ bytes) plain =
    let e : (slice_index (b ∷ bytes) (length (b ∷ bytes) - 1) == 13) ≡ false = other _ 13 (plain (length (b ∷ bytes) - 1) 0 (omega arith)) (omega arith) in
    rw e refl

-- a line of such words is the first line of a text that begins with it
pub line_first : (words : List Word) (back : List ℕ) → EachSafe words → lines (line_of words ++ back) ≡ words_text words ∷ lines back
line_first words back each =
    let plain = words_plain words each in
    ap lines (append_assoc (words_text words) (10 ∷ []) back) ∙ lines-at (words_text words) back (no_feed (words_text words) plain) ∙ ap (λ line. line ∷ lines back) (kept (words_text words) plain)
