-- Constants are read exactly.
use Rattle.std.proofs.Common.{◌≡◌, ℕ, ◌<◌, ◌≤◌, List, [], ◌∷◌, ◌++◌, length, Some, nat_lt, not, is_some, refl, arith}
use Rattle.path_tree.specs.declared.token.Symbol.TheVariants as symbols
use Rattle.path_tree.specs.Lexeme.{Lexeme, symbol, number as number_lexeme, identifier}
use Rattle.path_tree.specs.Reading.{symbol_at}
use Rattle.path_tree.specs.Known.{value_of}
use Rattle.path_tree.proofs.Found.{symbol_found}
use Rattle.token_read.specs.Names.{name_at}
use Rattle.token_read.specs.Series.{IsSeries, series_at}
use Rattle.decl_parts.specs.Declarations.{begins, begins_name, IsConstant, constant, IsConsts, consts}
use Rattle.decl_parts.specs.DeclarationReading.{provided, number_at, constant_in, consts_in}
use Rattle.token_read.proofs.Exact.{Exact, bind_some, read_is, series_exact}
use Rattle.decl_parts.proofs.Fronts.{name_front, number_front, provided_is, is_false, is_none, below, is_below, along}

constant_found : (before : List (List ℕ × ℕ)) (ws : List Lexeme) (x : List (List ℕ × ℕ)) (rest : List Lexeme) → constant_in before ws ≡ Some (x, rest) → IsConstant before ws x rest
unfolding constant_in
constant_found before ws x rest h =
    let q = bind_some (name_at ws) _ (x, rest) h in
    let new = bind_some (provided (not (is_some (value_of before q.0.0))) q.0.0) _ (x, rest) q.2 in
    let room = bind_some (provided (nat_lt (length before) 16) new.0) _ (x, rest) new.2 in
    let equal = bind_some (symbol_at symbols.Equal q.0.1) _ (x, rest) room.2 in
    let n = bind_some (number_at equal.0) _ (x, rest) equal.2 in
    let end = bind_some (symbol_at symbols.Semicolon n.0.1) _ (x, rest) n.2 in
    let k = read_is (before ++ (q.0.0, n.0.0) ∷ [], end.0) (x, rest) end.2 in
    let a = name_front ws q.0 q.1 in
    let b = symbol_found symbols.Equal q.0.1 equal.0 equal.1 in
    let c = number_front equal.0 n.0 n.1 in
    let d = symbol_found symbols.Semicolon n.0.1 end.0 end.1 in
    let stands : ws ≡ identifier q.0.0 ∷ symbol symbols.Equal ∷ number_lexeme n.0.0 ∷ symbol symbols.Semicolon ∷ rest = cc (a, b, c, d, k.1) in
    let fresh = is_none (value_of before q.0.0) (is_false (is_some (value_of before q.0.0)) (provided_is (not (is_some (value_of before q.0.0))) q.0.0 new.0 new.1).0) in
    let few = below (length before) 16 (provided_is (nat_lt (length before) 16) new.0 room.0 room.1).0 in
    along (IsConstant before) ws _ x _ rest rest stands k.0 refl (constant fresh few)

constant_read : (before : List (List ℕ × ℕ)) (ws : List Lexeme) (x : List (List ℕ × ℕ)) (rest : List Lexeme) → IsConstant before ws x rest → constant_in before ws ≡ Some (x, rest)
unfolding constant_in
constant_read before ws x rest (constant new few) = rw (new, is_below (length before) 16 few) refl

constant_shorter : (before : List (List ℕ × ℕ)) (ws : List Lexeme) (x : List (List ℕ × ℕ)) (rest : List Lexeme) → IsConstant before ws x rest → length rest ≤ length ws
constant_shorter before ws x rest (constant new few) = omega arith

pub constant_exact : (most : ℕ) (before : List (List ℕ × ℕ)) → Exact most (IsConstant before) (constant_in before)
constant_exact most before = record {
  found = λ ws x rest h. constant_found before ws x rest h;
  read = λ ws x rest long h. constant_read before ws x rest h;
  shorter = λ ws x rest h. constant_shorter before ws x rest h;
}

module _ (most : ℕ) where
  consts_found : (before : List (List ℕ × ℕ)) (ws : List Lexeme) (x : List (List ℕ × ℕ)) (rest : List Lexeme) → consts_in before ws ≡ Some (x, rest) → IsConsts before ws x rest
  unfolding consts_in
  consts_found before ws x rest h =
      let opened = bind_some (symbol_at symbols.Const ws) _ (x, rest) h in
      let one = bind_some (constant_in before opened.0) _ (x, rest) opened.2 in
      along (IsConsts before) ws _ x x rest rest (symbol_found symbols.Const ws opened.0 opened.1) refl refl
      (consts (constant_found before opened.0 one.0.0 one.0.1 one.1) ((series_exact most IsConstant constant_in begins_name (constant_exact most) 16 one.0.0).found one.0.1 x rest one.2))

  consts_read : (before : List (List ℕ × ℕ)) (ws : List Lexeme) (x : List (List ℕ × ℕ)) (rest : List Lexeme) → length ws < most → IsConsts before ws x rest → consts_in before ws ≡ Some (x, rest)
  unfolding consts_in
  consts_read before ws x rest long (consts {one = one} {ws = us} {vs = vs} first others) =
      let short = constant_shorter before us one vs first in
      let more = (series_exact most IsConstant constant_in begins_name (constant_exact most) 16 one).read vs x rest (omega arith) others in
      rw (constant_read before us one vs first) more

  consts_shorter : (before : List (List ℕ × ℕ)) (ws : List Lexeme) (x : List (List ℕ × ℕ)) (rest : List Lexeme) → IsConsts before ws x rest → length rest ≤ length ws
  consts_shorter before ws x rest (consts {one = one} {ws = us} {vs = vs} first others) =
      omega (arith, constant_shorter before us one vs first, (series_exact most IsConstant constant_in begins_name (constant_exact most) 16 one).shorter vs x rest others)

  pub consts_exact : (before : List (List ℕ × ℕ)) → Exact most (IsConsts before) (consts_in before)
  consts_exact before = record {
    found = λ ws x rest h. consts_found before ws x rest h;
    read = λ ws x rest long h. consts_read before ws x rest long h;
    shorter = λ ws x rest h. consts_shorter before ws x rest h;
  }

-- constants of an object, of which so many may begin
pub constants_exact : (most left : ℕ) (before : List (List ℕ × ℕ)) → Exact most (IsSeries IsConsts (begins symbols.Const) left before) (series_at consts_in (begins symbols.Const) left before)
constants_exact most left before = series_exact most IsConsts consts_in (begins symbols.Const) (consts_exact most) left before
