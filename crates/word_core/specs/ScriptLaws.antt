-- Laws of what lines of scripts say.
use Rattle.std.specs.Prelude.{◌≡◌, ◌↔◌, ℕ, Bool, true, false, List, [], ◌∷◌, Some, codes}
use Rattle.path_tree.specs.Identifier.{IsIdentifier}
use Rattle.word_core.specs.Words.{Word, bare}
use Rattle.word_core.specs.Data.{integer_of, session_of, data_of}
use Rattle.word_core.specs.Said.{Said, a_call, a_keyed_call, a_do, a_step, all_steps, a_finish, a_cancel, a_drop}
use Rattle.word_core.specs.Said.{a_resume, a_show, a_trace, said_of}

-- a verb, and the number of a call
abbrev pub AreNumbered : List ℕ → ℕ → List Word → Type 0
AreNumbered verb number words = (n : List ℕ) × (words ≡ bare verb ∷ bare n ∷ []) × (integer_of n ≡ Some number)

-- whether a step works, as a word
abbrev pub works_word : Bool → List ℕ
works_word true = codes "ok"
works_word false = codes "fail"

-- the words that say this
abbrev pub Tell : Said → List Word → Type 0
Tell (a_call session name arguments) words =
    (k : List ℕ) × (others : List Word) × (words ≡ bare (codes "call") ∷ bare k ∷ bare name ∷ others)
    × (session_of k ≡ Some session) × IsIdentifier name
    × (data_of others ≡ Some arguments)
Tell (a_keyed_call session key name arguments) words =
    (k digits : List ℕ) × (others : List Word)
    × (words ≡ bare (codes "call") ∷ bare k ∷ bare (35 ∷ digits) ∷ bare name ∷ others) × (session_of k ≡ Some session)
    × (integer_of digits ≡ Some key)
    × IsIdentifier name × (data_of others ≡ Some arguments)
Tell (a_do session name arguments) words =
    (k : List ℕ) × (others : List Word) × (words ≡ bare (codes "do") ∷ bare k ∷ bare name ∷ others)
    × (session_of k ≡ Some session) × IsIdentifier name
    × (data_of others ≡ Some arguments)
Tell (a_step number works) words =
    (n : List ℕ) × (words ≡ bare (codes "step") ∷ bare n ∷ bare (works_word works) ∷ []) × (integer_of n ≡ Some number)
Tell (all_steps number) words = AreNumbered (codes "steps") number words
Tell (a_finish number) words = AreNumbered (codes "finish") number words
Tell (a_cancel number) words = AreNumbered (codes "cancel") number words
Tell (a_drop session) words = (k : List ℕ) × (words ≡ bare (codes "drop") ∷ bare k ∷ []) × (session_of k ≡ Some session)
Tell (a_resume session) words =
    (k : List ℕ) × (words ≡ bare (codes "resume") ∷ bare k ∷ []) × (session_of k ≡ Some session)
Tell a_show words = words ≡ bare (codes "show") ∷ []
Tell a_trace words = words ≡ bare (codes "trace") ∷ []

-- words say what they tell, and nothing else
abbrev pub SaidExact : Type 0
SaidExact = (words : List Word) (said : Said) → (said_of words ≡ Some said) ↔ Tell said words
