-- What a value of `--past` says.
use Rattle.std.specs.Prelude.{◌≡◌, ◌≢◌, ◌<◌, ◌++◌, ℕ, ◌∷◌, length, get_or}
use Rattle.command_line.specs.declared.past.Past.{Past}
use Rattle.command_line.specs.Forms.{Text, IsNumber, number_of}

-- no colon (58) stands in it
abbrev pub HasNoColon : Text → Type 0
HasNoColon t = (i : ℕ) → i < length t → get_or t i 0 ≢ 58

-- OBJECT:OPERATION:K
pub record SaysPast (word : Text) (p : Past) : Type 0 where
  pub number : Text
  pub are : word ≡ p.object.now ++ 58 ∷ (p.operation.now ++ 58 ∷ number)
  pub no_colon : HasNoColon p.object.now
  pub no_other : HasNoColon p.operation.now
  pub is_number : IsNumber 1 30000 number
  pub times : p.times ≡ number_of number
