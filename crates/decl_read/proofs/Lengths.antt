-- What stands behind is no longer than what it stands behind.
use Rattle.std.proofs.Common.{◌≡◌, ℕ, ◌<◌, ◌≤◌, List, length, Some, ap, arith}
use Rattle.std.proofs.lemmas.List.{length-map}
use Rattle.path_tree.specs.declared.token.Token.{Token}
use Rattle.path_tree.specs.declared.token.Symbol.{Symbol}
use Rattle.path_tree.specs.declared.token.Symbol.TheVariants as symbols
use Rattle.path_tree.specs.Lexeme.{Lexeme, lexemes, lexeme_of}
use Rattle.path_tree.specs.Reading.{symbol_at}
use Rattle.path_tree.proofs.Found.{symbol_found}
use Rattle.token_read.specs.Reader.{Reader}
use Rattle.token_read.specs.Names.{name_at}
use Rattle.decl_parts.specs.Declarations.{IsConsts, begins}
use Rattle.decl_parts.specs.DeclarationReading.{consts_in}
use Rattle.token_read.specs.Series.{IsSeries, series_at}
use Rattle.token_read.proofs.Exact.{Exact}
use Rattle.decl_parts.proofs.ConstantsExact.{constants_exact}
use Rattle.decl_parts.proofs.Fronts.{name_front}

pub lexemes_long : (tokens : List Token) → length (lexemes tokens) ≡ length tokens
lexemes_long tokens = length-map tokens (λ (t : Token). lexeme_of t.kind)

pub behind_symbol : (s : Symbol) (tokens rest : List Token) → symbol_at s (lexemes tokens) ≡ Some (lexemes rest) → length rest < length tokens
behind_symbol s tokens rest h =
    let long = ap length (symbol_found s (lexemes tokens) (lexemes rest) h) in
    omega (arith, lexemes_long tokens, lexemes_long rest)

pub behind_name : (tokens rest : List Token) (bytes : List ℕ) → name_at (lexemes tokens) ≡ Some (bytes, lexemes rest) → length rest < length tokens
behind_name tokens rest bytes h =
    let long = ap length (name_front (lexemes tokens) (bytes, lexemes rest) h) in
    omega (arith, lexemes_long tokens, lexemes_long rest)

pub behind_exact : {A : Type 0} (most : ℕ) (Is : List Lexeme → A → List Lexeme → Type 0) (reader : Reader A) → Exact most Is reader → (tokens rest : List Token) (x : A) → reader (lexemes tokens) ≡ Some (x, lexemes rest) → length rest ≤ length tokens
behind_exact most Is reader exact tokens rest x h =
    let short = exact.shorter (lexemes tokens) x (lexemes rest) (exact.found (lexemes tokens) x (lexemes rest) h) in
    omega (arith, lexemes_long tokens, lexemes_long rest)

pub behind_constants : (tokens rest : List Token) (before x : List (List ℕ × ℕ)) → series_at consts_in (begins symbols.Const) 16 before (lexemes tokens) ≡ Some (x, lexemes rest) → length rest ≤ length tokens
behind_constants tokens rest before x h =
    behind_exact 131072 (IsSeries IsConsts (begins symbols.Const) 16 before) (series_at consts_in (begins symbols.Const) 16 before) (constants_exact 131072 16 before) tokens rest x h
