-- What a shelf holds once a value is saved.
use Rattle.std.specs.Prelude.{◌≡◌, ◌⊎◌, ℕ, List}
use Rattle.std.specs.FinMap.{insert}
use Rattle.device_core.specs.Papers.{Papers}
use Rattle.value_core.specs.Contents.{Contents, kind_of}
use Rattle.value_bytes.specs.Spelling.{Spells}

-- under this name stand bytes that spell the value; all else is as before
pub record IsSaved (before : Papers) (name : List ℕ) (value : Contents) (papers : Papers) : Type 0 where
  pub bytes : List ℕ
  pub spells : Spells bytes (kind_of value) value
  pub stored : papers ≡ insert before name bytes

-- it is so, or nothing has changed
abbrev pub MayBeSaved : Papers → List ℕ → Contents → Papers → Type 0
MayBeSaved before name value papers = (papers ≡ before) ⊎ IsSaved before name value papers
