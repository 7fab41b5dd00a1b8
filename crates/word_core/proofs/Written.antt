-- What is written as words has these words.
use Rattle.std.proofs.Common.{◌≡◌, ◌≢◌, ℕ, ◌<◌, ◌≤◌, ◌^◌, true, List, [], ◌∷◌, refl, arith}
use Rattle.std.specs.Prelude.{Some, None, codes, decimal, nat_lt, slice_index_or}
use Rattle.std.specs.List.{list_all}
use Rattle.std.proofs.lemmas.Bool.Decides.{nat_tests}
use Rattle.std.proofs.lemmas.List.Sums.{AllPass-from_list_all}
use Rattle.std.proofs.lemmas.List.Elements.{All-cons, All-head}
use Rattle.value_core.specs.declared.datum.Datum.{Datum}
use Rattle.value_core.specs.declared.datum.Datum.TheVariants.{Integer, Text}
use Rattle.value_core.specs.Datum.{IsDatum}
use Rattle.word_core.specs.Laws.{WrittenInteger, WrittenSession, WrittenEnding, WrittenFinish}
use Rattle.word_core.specs.Ending.{Ending, done, refused, failed, IsEnding, finish_words}
use Rattle.value_core.specs.Spaces.{EndsWord}
use Rattle.word_core.specs.Words.{Word, bare, IsWord, AreWords, EachWord, behind_word, words_text}
use Rattle.word_core.specs.Data.{datum_of, datum_word}
use Rattle.word_core.proofs.Spaces.{drop_spaces-word}
use Rattle.word_core.proofs.Numerals.{decimal_is_word, integer_of-decimal}

ends_behind : (more : List Word) → EndsWord (behind_word more)
ends_behind [] = tt
ends_behind (word ∷ more) = refl

pub behind_words : (words : List Word) → EachWord words → AreWords (behind_word words) words
behind_words [] each = refl
behind_words (word ∷ more) each = (
  behind_word more,
  record { is = each.0; ends = ends_behind more; stands = drop_spaces-word word (behind_word more) each.0 },
  behind_words more each.1,
)

pub written_words : (words : List Word) → EachWord words → AreWords (words_text words) words
written_words [] each = refl
written_words (word ∷ more) each = (
  behind_word more,
  record { is = each.0; ends = ends_behind more; stands = drop_spaces-word word (behind_word more) each.0 },
  behind_words more each.1,
)

pub written_integer : WrittenInteger
written_integer n few = (decimal_is_word n (omega arith), integer_of-decimal n few)

session_clear : (bytes : List ℕ) → IsWord (bare bytes) → IsWord (bare (115 ∷ bytes))
session_clear [] is = absurd is
session_clear (b ∷ bytes) is = ((λ h. absurd (omega (arith, h))), All-cons (λ z. z ≢ 32) 115 (b ∷ bytes) (λ h. absurd (omega (arith, h))) is.1)

pub written_session : WrittenSession
written_session n few = (session_clear (decimal n) (decimal_is_word n (omega arith)), integer_of-decimal n few)

pub written_datum : (d : Datum) → IsDatum d → IsWord (datum_word d) × (datum_of (datum_word d) ≡ Some d)
written_datum (Integer n) is = (decimal_is_word n (omega arith), rw (integer_of-decimal n is) refl)
written_datum (Text text) is = (is, refl)

above : (x y b : ℕ) → nat_lt x b ≡ true → y ≤ x → b ≢ y
above x y b more few same = grind (arith, nat_tests)

letters : (b : ℕ) (bytes : List ℕ) → list_all (λ b. nat_lt 39 b) (b ∷ bytes) ≡ true → IsWord (bare (b ∷ bytes))
letters b bytes are =
    let each = AllPass-from_list_all (λ b. nat_lt 39 b) (b ∷ bytes) are in
    (above 39 39 b (All-head (λ b. nat_lt 39 b ≡ true) b bytes each) (omega arith), λ k d inside. above 39 32 (slice_index_or (b ∷ bytes) k d) (each k d inside) (omega arith))

word_done : IsWord (bare (codes "done"))
word_done = letters 100 (111 ∷ 110 ∷ 101 ∷ []) refl

word_refused : IsWord (bare (codes "refused"))
word_refused = letters 114 (101 ∷ 102 ∷ 117 ∷ 115 ∷ 101 ∷ 100 ∷ []) refl

word_failed : IsWord (bare (codes "failed"))
word_failed = letters 102 (97 ∷ 105 ∷ 108 ∷ 101 ∷ 100 ∷ []) refl

pub written_ending : WrittenEnding
written_ending (done None) is = ((word_done, tt), refl)
written_ending (done (Some datum)) is = let one = written_datum datum is in ((word_done, (one.0, tt)), rw one.1 refl)
written_ending (refused word) is = ((word_refused, (is, tt)), refl)
written_ending (failed word) is = ((word_failed, (is, tt)), refl)

finish_each : (n : ℕ) (ending : Ending) → n < 2 ^ 64 → IsEnding ending → EachWord (finish_words n ending)
finish_each n (done None) few is = (word_done, (decimal_is_word n few, tt))
finish_each n (done (Some datum)) few is = (word_done, (decimal_is_word n few, ((written_datum datum is).0, tt)))
finish_each n (refused word) few is = (word_refused, (decimal_is_word n few, (is, tt)))
finish_each n (failed word) few is = (word_failed, (decimal_is_word n few, (is, tt)))

pub written_finish : WrittenFinish
written_finish n ending few is = written_words (finish_words n ending) (finish_each n ending few is)
