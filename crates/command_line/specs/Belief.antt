-- What a start believes by its command line.
use Rattle.std.specs.Prelude.{◌≡◌, ◌++◌, ◌==◌, All, List, [], ◌∷◌, false}
use Rattle.command_line.specs.declared.belief.AcceptedCut.{AcceptedCut}
use Rattle.command_line.specs.Forms.{Text, IsNumber, number_of}
use Rattle.command_line.specs.Past.{HasNoColon}

-- NAME:N
pub record SaysCut (word : Text) (c : AcceptedCut) : Type 0 where
  pub number : Text
  pub are : word ≡ c.object.now ++ 58 ∷ number
  pub no_colon : HasNoColon c.object.now
  pub is_number : IsNumber 1 4294967295 number
  pub line : c.line ≡ number_of number

-- no comma (44) stands in it
abbrev pub HasNoComma : Text → Type 0
HasNoComma t = All (λ b. (b == 44) ≡ false) t

-- NAME,NAME ..
pub data AreNames : Text → List Text → Type 0 where
  last : {name : Text} → HasNoComma name → AreNames name (name ∷ [])
  more : {name rest : Text} {names : List Text} → HasNoComma name → AreNames rest names → AreNames (name ++ 44 ∷ rest) (name ∷ names)
