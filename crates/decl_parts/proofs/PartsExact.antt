-- Parts are read exactly.
use Rattle.std.proofs.Common.{◌≡◌, ℕ, ◌-◌, ◌<◌, ◌≤◌, List, [], ◌∷◌, ◌++◌, length, Some, refl, subst, arith}
use Rattle.path_tree.specs.declared.token.Symbol.TheVariants as symbols
use Rattle.path_tree.specs.Lexeme.{Lexeme, symbol}
use Rattle.path_tree.specs.Reading.{symbol_at}
use Rattle.path_tree.proofs.Found.{symbol_found}
use Rattle.value_core.specs.declared.kind.Kind.{Kind}
use Rattle.token_read.specs.Series.{IsSeries, series_at}
use Rattle.decl_parts.specs.Declarations.{begins, begins_name, each_with, names_of_parts, IsKind, IsPartGroup, part_group, IsVar, var}
use Rattle.decl_parts.specs.DeclarationReading.{names_at, kind_in, part_group_in, var_in}
use Rattle.token_read.proofs.Exact.{Exact, bind_some, read_is, series_exact}
use Rattle.decl_parts.proofs.Fronts.{along}
use Rattle.decl_parts.proofs.KindsExact.{kind_exact}
use Rattle.decl_parts.proofs.NamesExact.{names_exact}

module _ (most : ℕ) (constants : List (List ℕ × ℕ)) where
  group_found : (before : List (List ℕ × Kind)) (ws : List Lexeme) (x : List (List ℕ × Kind)) (rest : List Lexeme) → part_group_in constants before ws ≡ Some (x, rest) → IsPartGroup constants before ws x rest
  unfolding part_group_in
  group_found before ws x rest h =
      let new = bind_some (names_at (names_of_parts constants before) (16 - length before) [] ws) _ (x, rest) h in
      let k = bind_some (kind_in constants new.0.1) _ (x, rest) new.2 in
      let end = bind_some (symbol_at symbols.Semicolon k.0.1) _ (x, rest) k.2 in
      let same = read_is (before ++ each_with k.0.0 new.0.0, end.0) (x, rest) end.2 in
      let names = (names_exact (names_of_parts constants before) most (16 - length before) []).found ws new.0.0 new.0.1 new.1 in
      let is = (kind_exact constants most).found new.0.1 k.0.0 k.0.1 k.1 in
      along (IsPartGroup constants before) ws ws x _ rest _ refl same.0 same.1
      (part_group names (subst (λ r. IsKind constants new.0.1 k.0.0 r) (symbol_found symbols.Semicolon k.0.1 end.0 end.1) is))

  group_read : (before : List (List ℕ × Kind)) (ws : List Lexeme) (x : List (List ℕ × Kind)) (rest : List Lexeme) → length ws < most → IsPartGroup constants before ws x rest → part_group_in constants before ws ≡ Some (x, rest)
  unfolding part_group_in
  group_read before ws x rest long (part_group {new = new} {k = k} {vs = vs} names is) =
      let named = names_exact (names_of_parts constants before) most (16 - length before) [] in
      let short = named.shorter ws new vs names in
      rw (named.read ws new vs long names, (kind_exact constants most).read vs k (symbol symbols.Semicolon ∷ rest) (omega arith) is) refl

  group_shorter : (before : List (List ℕ × Kind)) (ws : List Lexeme) (x : List (List ℕ × Kind)) (rest : List Lexeme) → IsPartGroup constants before ws x rest → length rest ≤ length ws
  group_shorter before ws x rest (part_group {new = new} {k = k} {vs = vs} names is) =
      let short = (names_exact (names_of_parts constants before) most (16 - length before) []).shorter ws new vs names in
      let shorter = (kind_exact constants most).shorter vs k (symbol symbols.Semicolon ∷ rest) is in
      omega arith

  pub part_group_exact : (before : List (List ℕ × Kind)) → Exact most (IsPartGroup constants before) (part_group_in constants before)
  part_group_exact before = record {
    found = λ ws x rest h. group_found before ws x rest h;
    read = λ ws x rest long h. group_read before ws x rest long h;
    shorter = λ ws x rest h. group_shorter before ws x rest h;
  }

  var_found : (before : List (List ℕ × Kind)) (ws : List Lexeme) (x : List (List ℕ × Kind)) (rest : List Lexeme) → var_in constants before ws ≡ Some (x, rest) → IsVar constants before ws x rest
  unfolding var_in
  var_found before ws x rest h =
      let opened = bind_some (symbol_at symbols.Var ws) _ (x, rest) h in
      let one = bind_some (part_group_in constants before opened.0) _ (x, rest) opened.2 in
      along (IsVar constants before) ws _ x x rest rest (symbol_found symbols.Var ws opened.0 opened.1) refl refl
      (var (group_found before opened.0 one.0.0 one.0.1 one.1) ((series_exact most (IsPartGroup constants) (part_group_in constants) begins_name part_group_exact 16 one.0.0).found one.0.1 x rest one.2))

  var_read : (before : List (List ℕ × Kind)) (ws : List Lexeme) (x : List (List ℕ × Kind)) (rest : List Lexeme) → length ws < most → IsVar constants before ws x rest → var_in constants before ws ≡ Some (x, rest)
  unfolding var_in
  var_read before ws x rest long (var {one = one} {ws = us} {vs = vs} first others) =
      let short = group_shorter before us one vs first in
      let more = (series_exact most (IsPartGroup constants) (part_group_in constants) begins_name part_group_exact 16 one).read vs x rest (omega arith) others in
      rw (group_read before us one vs (omega arith) first) more

  var_shorter : (before : List (List ℕ × Kind)) (ws : List Lexeme) (x : List (List ℕ × Kind)) (rest : List Lexeme) → IsVar constants before ws x rest → length rest ≤ length ws
  var_shorter before ws x rest (var {one = one} {ws = us} {vs = vs} first others) =
      omega (arith, group_shorter before us one vs first, (series_exact most (IsPartGroup constants) (part_group_in constants) begins_name part_group_exact 16 one).shorter vs x rest others)

  pub var_exact : (before : List (List ℕ × Kind)) → Exact most (IsVar constants before) (var_in constants before)
  var_exact before = record {
    found = λ ws x rest h. var_found before ws x rest h;
    read = λ ws x rest long h. var_read before ws x rest long h;
    shorter = λ ws x rest h. var_shorter before ws x rest h;
  }

-- parts of an object, of which so many may begin
pub parts_exact : (most : ℕ) (constants : List (List ℕ × ℕ)) (left : ℕ) (before : List (List ℕ × Kind)) → Exact most (IsSeries (IsVar constants) (begins symbols.Var) left before) (series_at (var_in constants) (begins symbols.Var) left before)
parts_exact most constants left before = series_exact most (IsVar constants) (var_in constants) (begins symbols.Var) (var_exact most constants) left before
