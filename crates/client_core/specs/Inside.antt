-- What a line asks to see.
use Rattle.std.specs.Prelude.{◌≡◌, ℕ, List, [], ◌∷◌, Option, Some, None, option_map, codes, if◌then◌else◌}
use Rattle.std.specs.Str.{bytes_eq}
use Rattle.word_core.specs.Words.{Word, AreWords}
use Rattle.word_core.specs.Data.{◌>>=◌, at_end, bare_of}
use Rattle.client_core.specs.declared.ask.Sight.{Sight}
use Rattle.client_core.specs.declared.ask.Sight.TheVariants as insides
use Rattle.client_core.specs.Numbers.{only_long}

-- behind `why` stands a number, behind `who` nothing or a number, and behind `list` nothing
abbrev pub why_behind : List Word → Option Sight
why_behind words = option_map insides.Why (only_long words)

abbrev pub who_behind : List Word → Option Sight
who_behind [] = Some (insides.Who 0)
who_behind (word ∷ words) = option_map insides.Who (only_long (word ∷ words))

abbrev pub list_behind : List Word → Option Sight
list_behind words = at_end words insides.List

abbrev pub inside_by : List ℕ → List Word → Option Sight
inside_by verb words =
    if bytes_eq verb (codes "why") then why_behind words else
    if bytes_eq verb (codes "who") then who_behind words else
    if bytes_eq verb (codes "list") then list_behind words else None

abbrev pub inside_in : List Word → Option Sight
inside_in words = bare_of words >>= λ first. inside_by first.0 first.1

-- a line asks to see this
pub record IsInside (line : List ℕ) (inside : Sight) : Type 0 where
  pub words : List Word
  pub all : AreWords line words
  pub is : inside_in words ≡ Some inside
