-- Symbols are told apart by their numbers.
use Rattle.std.proofs.Common.{◌≡◌, true, List, [], ◌∷◌, refl, sym, ap, ◌∙◌}
use Rattle.std.specs.Prelude.{slice_index_or}
use Rattle.std.proofs.lemmas.Bool.{eqb-true}
use Rattle.path_tree.specs.declared.token.Symbol.{Symbol}
use Rattle.path_tree.specs.declared.token.Symbol.TheVariants as symbols
use Rattle.path_tree.specs.Lexeme.{symbol_number, same_symbol}

all_symbols : List Symbol
all_symbols = symbols.OpenParen ∷ symbols.CloseParen ∷ symbols.OpenBracket ∷ symbols.CloseBracket ∷ symbols.Comma ∷ symbols.Semicolon ∷ symbols.Colon ∷ symbols.Assign ∷ symbols.Equal ∷ symbols.Differ ∷ symbols.Less ∷ symbols.LessEqual ∷ symbols.Greater ∷ symbols.GreaterEqual ∷ symbols.Plus ∷ symbols.Minus ∷ symbols.Append ∷ symbols.Array ∷ symbols.Begin ∷ symbols.Const ∷ symbols.Count ∷ symbols.Else ∷ symbols.End ∷ symbols.Entry ∷ symbols.Erase ∷ symbols.First ∷ symbols.Function ∷ symbols.Has ∷ symbols.If ∷ symbols.Integer ∷ symbols.Lookup ∷ symbols.Not ∷ symbols.Object ∷ symbols.Of ∷ symbols.Path ∷ symbols.Procedure ∷ symbols.Queue ∷ symbols.Refuse ∷ symbols.Store ∷ symbols.Table ∷ symbols.Take ∷ symbols.Text ∷ symbols.Then ∷ symbols.Var ∷ []

numbered : (s : Symbol) → slice_index_or all_symbols (symbol_number s) symbols.Var ≡ s
unfolding all_symbols
numbered symbols.OpenParen = refl
numbered symbols.CloseParen = refl
numbered symbols.OpenBracket = refl
numbered symbols.CloseBracket = refl
numbered symbols.Comma = refl
numbered symbols.Semicolon = refl
numbered symbols.Colon = refl
numbered symbols.Assign = refl
numbered symbols.Equal = refl
numbered symbols.Differ = refl
numbered symbols.Less = refl
numbered symbols.LessEqual = refl
numbered symbols.Greater = refl
numbered symbols.GreaterEqual = refl
numbered symbols.Plus = refl
numbered symbols.Minus = refl
numbered symbols.Append = refl
numbered symbols.Array = refl
numbered symbols.Begin = refl
numbered symbols.Const = refl
numbered symbols.Count = refl
numbered symbols.Else = refl
numbered symbols.End = refl
numbered symbols.Entry = refl
numbered symbols.Erase = refl
numbered symbols.First = refl
numbered symbols.Function = refl
numbered symbols.Has = refl
numbered symbols.If = refl
numbered symbols.Integer = refl
numbered symbols.Lookup = refl
numbered symbols.Not = refl
numbered symbols.Object = refl
numbered symbols.Of = refl
numbered symbols.Path = refl
numbered symbols.Procedure = refl
numbered symbols.Queue = refl
numbered symbols.Refuse = refl
numbered symbols.Store = refl
numbered symbols.Table = refl
numbered symbols.Take = refl
numbered symbols.Text = refl
numbered symbols.Then = refl
numbered symbols.Var = refl

-- symbols of one number are one symbol
pub symbols_same : (a b : Symbol) → same_symbol a b ≡ true → a ≡ b
symbols_same a b h = sym (numbered a) ∙ ap (λ n. slice_index_or all_symbols n symbols.Var) (eqb-true (symbol_number a) (symbol_number b) h) ∙ numbered b
