-- Laws of tokens.
use Rattle.std.specs.Prelude.{◌≡◌, ℕ, List}
use Rattle.path_tree.specs.declared.lex.fault.LexFault.{LexFault}
use Rattle.path_tree.specs.Tokens.{Placed, AreTokens, IsFirstFault}

-- a source has at most one list of tokens
abbrev pub OneTokenList : Type 0
OneTokenList = (source : List ℕ) (a b : List Placed) → AreTokens source a → AreTokens source b → a ≡ b

-- a source has at most one first fault
abbrev pub OneFirstFault : Type 0
OneFirstFault = (source : List ℕ) (a b : LexFault) → IsFirstFault source a → IsFirstFault source b → a ≡ b

-- a source with a fault has no tokens
abbrev pub FaultOrTokens : Type 0
FaultOrTokens =
    (source : List ℕ) (fault : LexFault) (all : List Placed) → IsFirstFault source fault → AreTokens source all → ⊥
