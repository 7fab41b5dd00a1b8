-- Laws of what lines of sessions ask for.
use Rattle.std.specs.Prelude.{◌≡◌, ◌↔◌, ℕ, false, List, [], ◌∷◌, Some, None, codes}
use Rattle.std.specs.Str.{str_to_ascii_lowercase}
use Rattle.path_tree.specs.Identifier.{IsIdentifier}
use Rattle.word_core.specs.Words.{Word, bare}
use Rattle.word_core.specs.Data.{integer_of, data_of}
use Rattle.session_text.specs.Reserved.{is_reserved}
use Rattle.session_text.specs.Requests.{Request, opens, calls, cancels, quits, request_of}

-- an identifier spells this name
abbrev pub Spells : List ℕ → List ℕ → Type 0
Spells bytes name = IsIdentifier bytes × (name ≡ str_to_ascii_lowercase bytes)

-- the words that ask for this
abbrev pub Ask : Request → List Word → Type 0
Ask (opens name None) words = (bytes : List ℕ) × (words ≡ bare (codes "open") ∷ bare bytes ∷ []) × Spells bytes name
Ask (opens name (Some client)) words =
    (bytes own : List ℕ) × (words ≡ bare (codes "open") ∷ bare bytes ∷ bare (codes "as") ∷ bare own ∷ [])
    × Spells bytes name × Spells own client × (is_reserved own ≡ false)
Ask (calls None name arguments) words =
    (bytes : List ℕ) × (others : List Word) × (words ≡ bare (codes "call") ∷ bare bytes ∷ others) × Spells bytes name
    × (data_of others ≡ Some arguments)
Ask (calls (Some key) name arguments) words =
    (digits bytes : List ℕ) × (others : List Word)
    × (words ≡ bare (codes "call") ∷ bare (35 ∷ digits) ∷ bare bytes ∷ others) × (integer_of digits ≡ Some key)
    × Spells bytes name × (data_of others ≡ Some arguments)
Ask (cancels number) words = (n : List ℕ) × (words ≡ bare (codes "cancel") ∷ bare n ∷ []) × (integer_of n ≡ Some number)
Ask quits words = words ≡ bare (codes "quit") ∷ []

-- words ask for what they are the words of, and for nothing else
abbrev pub RequestExact : Type 0
RequestExact = (words : List Word) (q : Request) → (request_of words ≡ Some q) ↔ Ask q words
