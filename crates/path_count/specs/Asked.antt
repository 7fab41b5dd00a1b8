-- What a line of `paths` asks for.
use Rattle.std.specs.Prelude.{ℕ, Bool, true, List, [], ◌∷◌, take, codes, if◌then◌else◌}
use Rattle.std.specs.Str.{bytes_eq, str_to_ascii_lowercase}
use Rattle.value_core.specs.Spaces.{drop_spaces}
use Rattle.path_count.specs.Words.{words}

pub data Asked : Type 0 where
  operations : List (List ℕ) → Asked
  path : Asked
  start : List ℕ → Asked
  finish : List ℕ → Asked
  other : Asked

-- a line begins with `path`, in any case, when its first four bytes after spaces are this
abbrev pub begins_with_path : List ℕ → Bool
begins_with_path line = bytes_eq (str_to_ascii_lowercase (take 4 (drop_spaces line))) (codes "path")

-- `start` or `finish`, and one name
abbrev pub asked_of_one : List ℕ → List ℕ → Asked
asked_of_one verb name =
    if bytes_eq verb (codes "start") then start name
    else if bytes_eq verb (codes "finish") then finish name
    else other

-- the words behind the first are one
abbrev pub asked_of_names : List ℕ → List (List ℕ) → Asked
asked_of_names verb [] = other
asked_of_names verb (name ∷ []) = asked_of_one verb name
asked_of_names verb (name ∷ another ∷ more) = other

abbrev pub asked_of_words : List (List ℕ) → Asked
asked_of_words [] = other
asked_of_words (verb ∷ names) = if bytes_eq verb (codes "ops") then operations names else asked_of_names verb names

-- words that ask for nothing else may begin with `path`
abbrev pub or_path : Asked → Bool → Asked
or_path other true = path
or_path asked begins = asked

-- what a line asks for
abbrev pub asked_of : List ℕ → Asked
asked_of line = or_path (asked_of_words (words line)) (begins_with_path line)
