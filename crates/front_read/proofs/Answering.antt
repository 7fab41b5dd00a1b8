-- How a call ended is read from the words that tell it.
use Rattle.std.proofs.Common.{◌≡◌, ℕ, Bool, true, false, not, ◌&&◌, List, ◌∷◌, ◌++◌, refl, sym, ap, ◌∙◌}
use Rattle.std.specs.Prelude.{Option, Some, None, codes, drop}
use Rattle.std.specs.Str.{bytes_eq}
use Rattle.apply_core.specs.declared.reply.Reply.{Reply}
use Rattle.apply_core.specs.declared.reply.Reply.TheVariants.{Done, Refused, Failed}
use Rattle.value_core.specs.declared.datum.Datum.{Datum}
use Rattle.word_core.specs.Words.{Word, bare}
use Rattle.word_core.specs.Data.{bare_of, datum_word}
use Rattle.word_core.specs.Ending.{ending_words, ending_of, TellEnding}
use Rattle.word_core.proofs.Endings.{ending_exact}
use Rattle.word_core.proofs.Written.{written_datum}
use Rattle.word_core.specs.TraceLaws.{IsReply}
use Rattle.word_core.specs.Text.{failure_word, reply_ending, reply_words}
use Rattle.live_core.specs.Front.{IsAnswer}
use Rattle.live_core.specs.Text.{answer_words}
use Rattle.live_core.specs.declared.front.Answer.{Answer}
use Rattle.live_core.specs.declared.front.Answer.TheVariants.{Replied, Cancelled}
use Rattle.front_read.specs.declared.answer.RememberedEnd.TheVariants as ended
use Rattle.front_read.specs.Answers.{tells_datum, is_some, FindsAnswer}
use Rattle.front_read.proofs.Calling.{some_same}

ending_told : (reply : Reply) → IsReply reply → TellEnding (reply_ending reply) (ending_words (reply_ending reply))
ending_told (Done None) is = refl
ending_told (Done (Some datum)) is = (datum_word datum, refl, (written_datum datum is).1)
ending_told (Refused word) is = refl
ending_told (Failed failure) is = refl

-- the words of a reply tell how its call ended
pub ending_read : (reply : Reply) (ws : List Word) → IsReply reply → ws ≡ reply_words reply → ending_of ws ≡ Some (reply_ending reply)
ending_read reply ws is same = ap ending_of same ∙ (ending_exact (ending_words (reply_ending reply)) (reply_ending reply)).1 (ending_told reply is)

abbrev First : List ℕ → List Word → List Word → Type 0
First verb rest ws = ◌≡◌ {A = Option (List ℕ × List Word)} (Some (verb, rest)) (bare_of ws)

verb_is : (verb v : List ℕ) (rest more ws : List Word) → First verb rest ws → ws ≡ bare v ∷ more → (verb ≡ v) × (rest ≡ more)
verb_is verb v rest more ws first same =
    let e : ◌≡◌ {A = List ℕ × List Word} (verb, rest) (v, more) = some_same (first ∙ ap bare_of same) in
    (ap (λ (p : List ℕ × List Word). p.0) e, ap (λ (p : List ℕ × List Word). p.1) e)

apart : (a b : Bool) → a ≡ true → a ≡ b → b ≡ false → ⊥
apart a b one same other = absurd cc

other_verb : (verb v w : List ℕ) → verb ≡ v → bytes_eq verb w ≡ true → bytes_eq v w ≡ false → ⊥
other_verb verb v w same is isnt = apart (bytes_eq verb w) (bytes_eq v w) is (ap (λ x. bytes_eq x w) same) isnt

both : (a b : Bool) → (a && not b) ≡ true → (a ≡ true) × (b ≡ false)
both true true is = absurd cc
both true false is = (refl, refl)
both false b is = absurd cc

pub told_datum : (datum : Datum) (more : List Word) → IsReply (Done (Some datum)) → tells_datum (datum_word datum ∷ more) ≡ true
told_datum datum more is = ap is_some (written_datum datum is).1

-- it was done, and replied nothing
pub nothing_found : (verb : List ℕ) (rest ws : List Word) → First verb rest ws → (bytes_eq verb (codes "done") && not (tells_datum rest)) ≡ true → FindsAnswer ws (Some (ended.Replied (Done None), 1))
nothing_found verb rest ws first is = (found, tt) where
  parts : (bytes_eq verb (codes "done") ≡ true) × (tells_datum rest ≡ false)
  parts = both (bytes_eq verb (codes "done")) (tells_datum rest) is

  found : (answer : Answer) (more : List Word) → IsAnswer answer → tells_datum more ≡ false → ws ≡ answer_words answer ++ more → ◌≡◌ {A = Option (Answer × List Word)} (Some (Replied (Done None), drop 1 ws)) (Some (answer, more))
  found Cancelled more its none same =
      let v = verb_is verb (codes "cancelled") rest more ws first same in absurd (other_verb verb (codes "cancelled") (codes "done") v.0 parts.0 refl)
  found (Replied (Done None)) more its none same = ap (λ (m : List Word). Some (Replied (Done None), drop 1 m)) same
  found (Replied (Done (Some datum))) more its none same =
      let v = verb_is verb (codes "done") rest (datum_word datum ∷ more) ws first same in
      absurd (apart (tells_datum (datum_word datum ∷ more)) (tells_datum rest) (told_datum datum more its) (ap tells_datum (sym v.1)) parts.1)
  found (Replied (Refused word)) more its none same =
      let v = verb_is verb (codes "refused") rest (bare word ∷ more) ws first same in absurd (other_verb verb (codes "refused") (codes "done") v.0 parts.0 refl)
  found (Replied (Failed failure)) more its none same =
      let v = verb_is verb (codes "failed") rest (bare (failure_word failure) ∷ more) ws first same in absurd (other_verb verb (codes "failed") (codes "done") v.0 parts.0 refl)
