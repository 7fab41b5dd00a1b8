-- What a line says is what its words say.
use Rattle.std.proofs.Common.{◌≡◌, ℕ, List, Option, Some, None, sym, ◌∙◌, ap}
use Rattle.std.specs.Prelude.{option_map}
use Rattle.word_core.specs.Words.{Word, AreWords}
use Rattle.word_core.proofs.Cutting.{words_unique}
use Rattle.word_core.specs.declared.said.Said.{Said}
use Rattle.word_core.specs.Said as lines
use Rattle.word_core.specs.ScriptView.{said_view, IsReadOf}

says_none : (found : Option lines.Said) (said : lines.Said) → None ≡ found → found ≡ Some said → ⊥
says_none found said none some = cc

pub read_of : (line : List ℕ) (words : List Word) (found : Option Said) → AreWords line words → option_map said_view found ≡ lines.said_of words → IsReadOf line found
read_of line words None are same = λ said says.
    says_none (lines.said_of says.0) said (same ∙ ap lines.said_of (words_unique line words says.0 are says.1)) says.2
read_of line words (Some said) are same = (words, are, sym same)
