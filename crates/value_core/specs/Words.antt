-- The words of refusals.
use Rattle.std.specs.Prelude.{ℕ, List, codes}
use Rattle.value_core.specs.declared.refusal.Refusal.{Refusal}
use Rattle.value_core.specs.declared.refusal.Refusal.TheVariants.{Index, Full, Empty, Missing, Range}

-- the word by which a body is refused
abbrev pub word_of : Refusal → List ℕ
word_of Index = codes "index"
word_of Full = codes "full"
word_of Empty = codes "empty"
word_of Missing = codes "missing"
word_of Range = codes "range"
