-- What a line asks is what its words ask.
use Rattle.std.proofs.Common.{◌≡◌, ℕ, List, Option, Some, None, sym, ◌∙◌, ap}
use Rattle.std.specs.Prelude.{option_map}
use Rattle.word_core.specs.Words.{Word, AreWords}
use Rattle.word_core.proofs.Cutting.{words_unique}
use Rattle.world_core.specs.declared.question.Question.{Question}
use Rattle.world_core.specs.Asked.{Asked, asked_of, view_of, IsAskedBy}

asks_none : (found : Option Asked) (asked : Asked) → None ≡ found → found ≡ Some asked → ⊥
asks_none found asked none some = cc

pub read_of : (line : List ℕ) (words : List Word) (found : Option Question) → AreWords line words → option_map view_of found ≡ asked_of words → IsAskedBy line found
read_of line words None are same = λ asked says.
    asks_none (asked_of says.0) asked (same ∙ ap asked_of (words_unique line words says.0 are says.1)) says.2
read_of line words (Some question) are same = (words, are, sym same)
