-- A name of an operation stands behind two words, so at most half of the lexemes are such names.
use Rattle.std.proofs.Common.{◌≡◌, ℕ, ◌+◌, ◌≤◌, Bool, true, false, cond, List, [], ◌∷◌, length, Some, subst, arith}
use Rattle.path_tree.specs.declared.token.Token.{Token}
use Rattle.path_tree.specs.declared.token.Symbol.TheVariants as symbols
use Rattle.path_tree.specs.Lexeme.{Lexeme, lexemes, symbol, number, identifier, string, end_mark, same_symbol}
use Rattle.decl_read.specs.declared.collect.Opening.{Opening}
use Rattle.decl_read.specs.declared.collect.Opening.TheVariants as openings
use Rattle.decl_read.specs.Declarations.{entry_names, is_object_word, opening_after}
use Rattle.decl_read.proofs.Lengths.{lexemes_long}

-- directly behind the two words a name may stand in front
abbrev ahead : Opening → ℕ
ahead openings.Nothing = 0
ahead openings.Entry = 0
ahead openings.Operation = 1

ahead_few : (o : Opening) → ahead o ≤ 1
ahead_few openings.Nothing = omega arith
ahead_few openings.Entry = omega arith
ahead_few openings.Operation = omega arith

stopped : (b : Bool) (names : List (List ℕ)) (n : ℕ) → length names + length names ≤ n → length (cond b [] names) + length (cond b [] names) ≤ n
stopped true names n h = omega arith
stopped false names n h = h

later : (o : Opening) (names : List (List ℕ)) (n : ℕ) → length names + length names ≤ n + ahead o → length names + length names ≤ n + 1
later o names n h = omega (arith, h, ahead_few o)

names_twice : (o : Opening) (ws : List Lexeme) → length (entry_names o ws) + length (entry_names o ws) ≤ length ws + ahead o
names_twice o [] = omega arith
names_twice openings.Nothing (w ∷ ws) =
    let o : Opening = opening_after openings.Nothing w in
    stopped (is_object_word w) (entry_names o ws) _ (omega (arith, later o (entry_names o ws) (length ws) (names_twice o ws)))
names_twice openings.Entry (w ∷ ws) =
    let o : Opening = opening_after openings.Entry w in
    stopped (is_object_word w) (entry_names o ws) _ (omega (arith, later o (entry_names o ws) (length ws) (names_twice o ws)))
names_twice openings.Operation (identifier bytes ∷ ws) = omega (arith, names_twice openings.Nothing ws)
names_twice openings.Operation (symbol s ∷ ws) =
    let o : Opening = opening_after openings.Operation (symbol s) in
    stopped (same_symbol s symbols.Object) (entry_names o ws) _ (omega (arith, later o (entry_names o ws) (length ws) (names_twice o ws)))
names_twice openings.Operation (number n ∷ ws) = omega (arith, names_twice openings.Nothing ws)
names_twice openings.Operation (string bytes ∷ ws) = omega (arith, names_twice openings.Nothing ws)
names_twice openings.Operation (end_mark ∷ ws) = omega (arith, names_twice openings.Nothing ws)

some_same : (xs ys : List (List ℕ)) → Some xs ≡ Some ys → xs ≡ ys
some_same xs ys h = cc

-- the names of a source are few enough to be numbered
pub names_few : (tokens : List Token) (names : List (List ℕ)) → Some (entry_names openings.Nothing (lexemes tokens)) ≡ Some names → length tokens ≤ 65537 → length names ≤ 65535
names_few tokens names h short =
    subst (λ xs. length xs ≤ 65535) (some_same (entry_names openings.Nothing (lexemes tokens)) names h)
    (omega (arith, names_twice openings.Nothing (lexemes tokens), lexemes_long tokens, short))
