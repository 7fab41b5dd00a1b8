-- What is written as words stands on one line.
use Rattle.std.proofs.Common.{◌≢◌, ℕ, ◌<◌, ◌^◌, List, [], ◌∷◌, ◌++◌, refl, sym, subst, arith, inl, inr}
use Rattle.std.specs.Prelude.{All, map, decimal}
use Rattle.std.proofs.lemmas.Bool.{cases_eq}
use Rattle.std.proofs.lemmas.List.Elements.{All-append, All-cons, All-nil, All-head, All-tail}
use Rattle.std.proofs.lemmas.Fmt.{digits_decimal}
use Rattle.value_core.specs.declared.datum.Datum.{Datum}
use Rattle.value_core.specs.declared.datum.Datum.TheVariants.{Integer, Text}
use Rattle.value_core.specs.Plain.{IsPlain, IsText}
use Rattle.value_core.specs.Datum.{IsDatum}
use Rattle.word_core.specs.Words.{Word, bare, quoted, doubled, word_text, IsWord, EachWord, EachClear, behind_word}
use Rattle.word_core.specs.Data.{datum_word}
use Rattle.word_core.specs.Laws.{WrittenClear, WrittenData}
use Rattle.word_core.proofs.Quoting.{twice, once}
use Rattle.word_core.proofs.Numerals.{digits, digits_apart}
use Rattle.word_core.proofs.Written.{written_datum}

abbrev NoEnd : List ℕ → Type 0
NoEnd bytes = All (λ b. b ≢ 10) bytes

doubled_clear : (text : List ℕ) → All IsPlain text → NoEnd (doubled text)
doubled_clear [] plain = All-nil (λ b. b ≢ 10)
doubled_clear (b ∷ text) plain =
    let here = All-head IsPlain b text plain in
    let clear : b ≢ 10 = λ h. absurd (omega (arith, here.0, h)) in
    let behind = doubled_clear text (All-tail IsPlain b text plain) in
    elim (cases_eq b 39) [
      | inl is ↦ subst NoEnd (sym (twice b text is)) (All-cons (λ b. b ≢ 10) 39 (39 ∷ doubled text) (λ h. absurd (omega (arith, h))) (All-cons (λ b. b ≢ 10) 39 (doubled text) (λ h. absurd (omega (arith, h))) behind))
      | inr isnt ↦ subst NoEnd (sym (once b text isnt)) (All-cons (λ b. b ≢ 10) b (doubled text) clear behind)
    ]

single : (b : ℕ) → b ≢ 10 → NoEnd (b ∷ [])
single b isnt = All-cons (λ b. b ≢ 10) b [] isnt (All-nil (λ b. b ≢ 10))

quote_clear : ◌≢◌ {A = ℕ} 39 10
quote_clear h = absurd (omega (arith, h))

space_clear : ◌≢◌ {A = ℕ} 32 10
space_clear h = absurd (omega (arith, h))

text_clear : (text : List ℕ) → IsText text → NoEnd (word_text (quoted text))
text_clear text is = All-cons (λ b. b ≢ 10) 39 (doubled text ++ 39 ∷ []) quote_clear (All-append (λ b. b ≢ 10) (doubled text) (39 ∷ []) (doubled_clear text is.plain) (single 39 quote_clear))

word_clear : (word : Word) (more : List Word) → IsWord word → EachClear (word ∷ more) → NoEnd (word_text word) × EachClear more
word_clear (bare bytes) more is clear = clear
word_clear (quoted text) more is clear = (text_clear text is, clear)

behind_clear : (words : List Word) → EachWord words → EachClear words → NoEnd (behind_word words)
behind_clear [] each clear = All-nil (λ b. b ≢ 10)
behind_clear (word ∷ more) each clear =
    let one = word_clear word more each.0 clear in
    All-cons (λ b. b ≢ 10) 32 (word_text word ++ behind_word more) space_clear (All-append (λ b. b ≢ 10) (word_text word) (behind_word more) one.0 (behind_clear more each.1 one.1))

pub written_clear : WrittenClear
written_clear [] each clear = All-nil (λ b. b ≢ 10)
written_clear (word ∷ more) each clear =
    let one = word_clear word more each.0 clear in
    All-append (λ b. b ≢ 10) (word_text word) (behind_word more) one.0 (behind_clear more each.1 one.1)

decimal_clear : (n : ℕ) → n < 2 ^ 32 → NoEnd (decimal n)
decimal_clear n few = digits_apart (decimal n) 10 (digits_decimal digits n (omega arith)) (omega arith)

datum_clear : (datum : Datum) (more : List Word) → IsDatum datum → EachClear more → EachClear (datum_word datum ∷ more)
datum_clear (Integer n) more is clear = (decimal_clear n is, clear)
datum_clear (Text text) more is clear = clear

pub written_data : WrittenData
written_data [] each = (tt, tt, refl)
written_data (datum ∷ elements) each =
    let one = written_datum datum (All-head IsDatum datum elements each) in
    let others = written_data elements (All-tail IsDatum datum elements each) in (
      (one.0, others.0),
      datum_clear datum (map datum_word elements) (All-head IsDatum datum elements each) others.1,
      rw (one.1, others.2) refl,
    )
