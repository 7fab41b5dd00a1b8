-- How a remembered call ended, as words tell it.
use Rattle.std.specs.Prelude.{◌≡◌, ℕ, Bool, true, false, List, [], ◌∷◌, ◌++◌, Option, Some, None, IfSome, option_map, drop}
use Rattle.apply_core.specs.declared.reply.Reply.{Reply}
use Rattle.word_core.specs.Words.{Word}
use Rattle.word_core.specs.Data.{datum_of}
use Rattle.live_core.specs.Front.{IsAnswer}
use Rattle.live_core.specs.Text.{answer_words}
use Rattle.live_core.specs.declared.front.Answer.{Answer}
use Rattle.live_core.specs.declared.front.Answer.TheVariants.{Replied, Cancelled}
use Rattle.front_read.specs.declared.answer.RememberedEnd.{RememberedEnd}
use Rattle.front_read.specs.declared.answer.RememberedEnd.TheVariants as ended

abbrev pub answer_of_end : RememberedEnd → Answer
answer_of_end (ended.Replied reply) = Replied reply
answer_of_end ended.Cancelled = Cancelled

abbrev pub is_some : {A : Type 0} → Option A → Bool
is_some (Some x) = true
is_some None = false

-- the first word is an integer or a text
abbrev pub tells_datum : List Word → Bool
tells_datum [] = false
tells_datum (word ∷ words) = is_some (datum_of word)

-- how a call ended, as so many of these words tell it, and the words behind them
abbrev pub answered : List Word → RememberedEnd × ℕ → Answer × List Word
answered words x = (answer_of_end x.0, drop x.1 words)

-- how a call ended that these words begin with was found; the words behind it do not begin with an integer or a text
abbrev pub FindsAnswer : List Word → Option (RememberedEnd × ℕ) → Type 0
FindsAnswer words found =
    ((answer : Answer) (rest : List Word) → IsAnswer answer → tells_datum rest ≡ false →
    words ≡ answer_words answer ++ rest → option_map (answered words) found ≡ Some (answer, rest))
    × IfSome found (λ x. IsAnswer (answer_of_end x.0))

-- the same, for a reply that two words tell
abbrev pub FindsInTwo : List Word → Option (RememberedEnd × ℕ) → Type 0
FindsInTwo words found =
    ((reply : Reply) (a b : Word) (rest : List Word) → IsAnswer (Replied reply) →
    answer_words (Replied reply) ≡ a ∷ b ∷ [] → words ≡ a ∷ b ∷ rest →
    option_map (answered words) found ≡ Some (Replied reply, rest))
    × IfSome found (λ x. IsAnswer (answer_of_end x.0))
