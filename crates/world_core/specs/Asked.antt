-- What a line asks.
use Rattle.std.specs.Prelude.{ℕ, List, Option, Some, None, MatchOption, codes, if◌then◌else◌}
use Rattle.std.specs.Str.{bytes_eq}
use Rattle.word_core.specs.Words.{Word}
use Rattle.word_core.specs.Data.{◌>>=◌, bare_of, only_integer, at_end}
use Rattle.word_core.specs.Says.{Says}
use Rattle.world_core.specs.declared.question.Question.{Question}
use Rattle.world_core.specs.declared.question.Question.TheVariants as questions

-- why the call of a number waits; which calls wait; which operations there are
pub data Asked : Type 0 where
  why : ℕ → Asked
  who : Asked
  list : Asked

-- behind this first word
abbrev pub asked_by : List ℕ → List Word → Option Asked
asked_by verb words =
    if bytes_eq verb (codes "why") then (only_integer words >>= λ number. Some (why number))
    else if bytes_eq verb (codes "who") then at_end words who
    else if bytes_eq verb (codes "list") then at_end words list
    else None

-- what words ask
abbrev pub asked_of : List Word → Option Asked
asked_of words = bare_of words >>= λ verb. asked_by verb.0 verb.1

abbrev pub view_of : Question → Asked
view_of (questions.Why number) = why number
view_of questions.Who = who
view_of questions.List = list

-- what a line asks, or none where it asks nothing
abbrev pub IsAskedBy : List ℕ → Option Question → Type 0
IsAskedBy line found = MatchOption found ((asked : Asked) → Says asked_of line asked → ⊥)
    (λ question. Says asked_of line (view_of question))
