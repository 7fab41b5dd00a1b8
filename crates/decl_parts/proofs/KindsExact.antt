-- Elements, sizes and kinds are read exactly.
use Rattle.std.proofs.Common.{◌≡◌, ℕ, ◌≤◌, Bool, true, false, cond, List, [], ◌∷◌, length, Option, Some, None, nat_le, ◌&&◌, refl, sym, ap, subst, ◌∙◌, arith}
use Rattle.path_tree.specs.declared.token.Symbol.{Symbol}
use Rattle.path_tree.specs.declared.token.Symbol.TheVariants as symbols
use Rattle.path_tree.specs.Lexeme.{Lexeme, symbol, number as number_lexeme, identifier, string, end_mark, same_symbol}
use Rattle.path_tree.specs.Reading.{symbol_at}
use Rattle.path_tree.specs.Known.{value_of}
use Rattle.path_tree.proofs.Found.{symbol_found}
use Rattle.path_tree.proofs.SymbolNumbers.{symbols_same}
use Rattle.value_core.specs.declared.kind.Elem.{Elem}
use Rattle.value_core.specs.declared.kind.Elem.TheVariants as elem
use Rattle.value_core.specs.declared.kind.Kind.{Kind}
use Rattle.value_core.specs.declared.kind.Kind.TheVariants as kind
use Rattle.decl_parts.specs.Declarations.{IsSize, by_number, by_constant, IsElem, integer, text, IsKind, an_array, a_queue, a_table}
use Rattle.decl_parts.specs.DeclarationReading.{allowed, size_at, size_in, elem_of, elem_at, of_elem_in, array_in, queue_in, table_in, kind_by_symbol, kind_in}
use Rattle.token_read.proofs.Exact.{Exact, bind_some, read_is}
use Rattle.decl_parts.proofs.Fronts.{provided_is, both_are, at_most, is_at_most, along}

-- a word for elements, in front
pub record ElemRead (ws : List Lexeme) (e : Elem) (rest : List Lexeme) : Type 0 where
  pub word : Symbol
  pub stands : ws ≡ symbol word ∷ rest
  pub is : IsElem word e

elem_by : (s : Symbol) (is_integer is_text : Bool) (e : Elem) → (is_integer ≡ true → s ≡ symbols.Integer) → (is_text ≡ true → s ≡ symbols.Text) →
    cond {A = Option Elem} is_integer (Some elem.Integer) (cond {A = Option Elem} is_text (Some elem.Text) None) ≡ Some e → IsElem s e
elem_by s true is_text e p q h = let k : elem.Integer ≡ e = cc in subst (λ v. IsElem v e) (sym (p refl)) (subst (λ v. IsElem symbols.Integer v) k integer)
elem_by s false true e p q h = let k : elem.Text ≡ e = cc in subst (λ v. IsElem v e) (sym (q refl)) (subst (λ v. IsElem symbols.Text v) k text)
elem_by s false false e p q h = absurd cc

pub elem_found : (ws : List Lexeme) (e : Elem) (rest : List Lexeme) → elem_at ws ≡ Some (e, rest) → ElemRead ws e rest
elem_found [] e rest h = absurd cc
elem_found (symbol s ∷ ws) e rest h =
    let a = bind_some (elem_of s) (λ v. Some (v, ws)) (e, rest) h in
    let k = read_is (a.0, ws) (e, rest) a.2 in
    record {
      word = s;
      stands = ap (λ r. symbol s ∷ r) k.1;
      is = subst (λ v. IsElem s v) k.0 (elem_by s (same_symbol s symbols.Integer) (same_symbol s symbols.Text) a.0 (symbols_same s symbols.Integer) (symbols_same s symbols.Text) a.1);
    }
elem_found (number_lexeme n ∷ ws) e rest h = absurd cc
elem_found (identifier bytes ∷ ws) e rest h = absurd cc
elem_found (string bytes ∷ ws) e rest h = absurd cc
elem_found (end_mark ∷ ws) e rest h = absurd cc

pub elem_read : (s : Symbol) (e : Elem) (ws : List Lexeme) → IsElem s e → elem_at (symbol s ∷ ws) ≡ Some (e, ws)
elem_read s e ws integer = refl
elem_read s e ws text = refl

-- `of` and a word for elements, in front
record OfElemRead (ws : List Lexeme) (e : Elem) (rest : List Lexeme) : Type 0 where
  word : Symbol
  stands : ws ≡ symbol symbols.Of ∷ symbol word ∷ rest
  is : IsElem word e

of_elem_found : (ws : List Lexeme) (e : Elem) (rest : List Lexeme) → of_elem_in ws ≡ Some (e, rest) → OfElemRead ws e rest
unfolding of_elem_in
of_elem_found ws e rest h =
    let a = bind_some (symbol_at symbols.Of ws) elem_at (e, rest) h in
    let f = elem_found a.0 e rest a.2 in
    record { word = f.word; stands = symbol_found symbols.Of ws a.0 a.1 ∙ ap (λ r. symbol symbols.Of ∷ r) f.stands; is = f.is }

of_elem_read : (s : Symbol) (e : Elem) (ws : List Lexeme) → IsElem s e → of_elem_in (symbol symbols.Of ∷ symbol s ∷ ws) ≡ Some (e, ws)
unfolding of_elem_in
of_elem_read s e ws is = elem_read s e ws is

module _ (constants : List (List ℕ × ℕ)) where
  -- a size, in front
  record SizeRead (ws : List Lexeme) (n : ℕ) (rest : List Lexeme) : Type 0 where
    word : Lexeme
    stands : ws ≡ word ∷ rest
    is : IsSize constants word n

  size_at_found : (ws : List Lexeme) (n : ℕ) (rest : List Lexeme) → size_at constants ws ≡ Some (n, rest) → SizeRead ws n rest
  size_at_found [] n rest h = absurd cc
  size_at_found (number_lexeme m ∷ ws) n rest h =
      let k = read_is (m, ws) (n, rest) h in
      record { word = number_lexeme m; stands = ap (λ r. number_lexeme m ∷ r) k.1; is = subst (λ v. IsSize constants (number_lexeme m) v) k.0 by_number }
  size_at_found (identifier bytes ∷ ws) n rest h =
      let a = bind_some (value_of constants bytes) (λ v. Some (v, ws)) (n, rest) h in
      let k = read_is (a.0, ws) (n, rest) a.2 in
      record { word = identifier bytes; stands = ap (λ r. identifier bytes ∷ r) k.1; is = subst (λ v. IsSize constants (identifier bytes) v) k.0 (by_constant a.1) }
  size_at_found (symbol s ∷ ws) n rest h = absurd cc
  size_at_found (string bytes ∷ ws) n rest h = absurd cc
  size_at_found (end_mark ∷ ws) n rest h = absurd cc

  size_at_read : (w : Lexeme) (n : ℕ) (ws : List Lexeme) → IsSize constants w n → size_at constants (w ∷ ws) ≡ Some (n, ws)
  size_at_read w n ws by_number = refl
  size_at_read w n ws (by_constant is) = rw is refl

  array_found : (ws : List Lexeme) (k : Kind) (rest : List Lexeme) → array_in constants ws ≡ Some (k, rest) → IsKind constants (symbol symbols.Array ∷ ws) k rest
  unfolding array_in size_in
  array_found ws k rest h =
      let opened = bind_some (symbol_at symbols.OpenBracket ws) _ (k, rest) h in
      let size = bind_some (size_in constants opened.0) _ (k, rest) opened.2 in
      let n = bind_some (size_at constants opened.0) _ size.0 size.1 in
      let fits = bind_some (allowed n.0.0) _ size.0 n.2 in
      let same = read_is (fits.0, n.0.1) size.0 fits.2 in
      let closed = bind_some (symbol_at symbols.CloseBracket size.0.1) _ (k, rest) size.2 in
      let e = bind_some (of_elem_in closed.0) _ (k, rest) closed.2 in
      let end = read_is (kind.Array size.0.0 e.0.0, e.0.1) (k, rest) e.2 in
      let s = size_at_found opened.0 n.0.0 n.0.1 n.1 in
      let f = of_elem_found closed.0 e.0.0 e.0.1 e.1 in
      let given = provided_is (nat_le 1 n.0.0 && nat_le n.0.0 1024) n.0.0 fits.0 fits.1 in
      let bounds = both_are (nat_le 1 n.0.0) (nat_le n.0.0 1024) given.0 in
      let a = symbol_found symbols.OpenBracket ws opened.0 opened.1 in
      let c = symbol_found symbols.CloseBracket size.0.1 closed.0 closed.1 in
      let stands : symbol symbols.Array ∷ ws ≡ symbol symbols.Array ∷ symbol symbols.OpenBracket ∷ s.word ∷ symbol symbols.CloseBracket ∷ symbol symbols.Of ∷ symbol f.word ∷ e.0.1 = cc (a, s.stands, same.1, c, f.stands) in
      let is : kind.Array n.0.0 e.0.0 ≡ k = cc (given.1, same.0, end.0) in
      along (IsKind constants) _ _ k _ rest _ stands is end.1 (an_array s.is (at_most 1 n.0.0 bounds.0) (at_most n.0.0 1024 bounds.1) f.is)

  queue_found : (ws : List Lexeme) (k : Kind) (rest : List Lexeme) → queue_in ws ≡ Some (k, rest) → IsKind constants (symbol symbols.Queue ∷ ws) k rest
  unfolding queue_in
  queue_found ws k rest h =
      let e = bind_some (of_elem_in ws) _ (k, rest) h in
      let end = read_is (kind.Queue e.0.0, e.0.1) (k, rest) e.2 in
      let f = of_elem_found ws e.0.0 e.0.1 e.1 in
      along (IsKind constants) _ _ k _ rest _ (ap (λ r. symbol symbols.Queue ∷ r) f.stands) end.0 end.1 (a_queue f.is)

  table_found : (ws : List Lexeme) (k : Kind) (rest : List Lexeme) → table_in ws ≡ Some (k, rest) → IsKind constants (symbol symbols.Table ∷ ws) k rest
  unfolding table_in
  table_found ws k rest h =
      let e = bind_some (of_elem_in ws) _ (k, rest) h in
      let end = read_is (kind.Table e.0.0, e.0.1) (k, rest) e.2 in
      let f = of_elem_found ws e.0.0 e.0.1 e.1 in
      along (IsKind constants) _ _ k _ rest _ (ap (λ r. symbol symbols.Table ∷ r) f.stands) end.0 end.1 (a_table f.is)

  word_is : (s t : Symbol) (ws : List Lexeme) (k : Kind) (rest : List Lexeme) → s ≡ t → IsKind constants (symbol t ∷ ws) k rest → IsKind constants (symbol s ∷ ws) k rest
  word_is s t ws k rest e is = subst (λ v. IsKind constants (symbol v ∷ ws) k rest) (sym e) is

  symbol_by : (s : Symbol) (is_array is_queue is_table : Bool) (ws : List Lexeme) (k : Kind) (rest : List Lexeme) →
      (is_array ≡ true → s ≡ symbols.Array) → (is_queue ≡ true → s ≡ symbols.Queue) → (is_table ≡ true → s ≡ symbols.Table) →
      cond {A = Option (Kind × List Lexeme)} is_array (array_in constants ws) (cond {A = Option (Kind × List Lexeme)} is_queue (queue_in ws) (cond {A = Option (Kind × List Lexeme)} is_table (table_in ws) None)) ≡ Some (k, rest) →
      IsKind constants (symbol s ∷ ws) k rest
  symbol_by s true is_queue is_table ws k rest p q r h = word_is s symbols.Array ws k rest (p refl) (array_found ws k rest h)
  symbol_by s false true is_table ws k rest p q r h = word_is s symbols.Queue ws k rest (q refl) (queue_found ws k rest h)
  symbol_by s false false true ws k rest p q r h = word_is s symbols.Table ws k rest (r refl) (table_found ws k rest h)
  symbol_by s false false false ws k rest p q r h = absurd cc

  kind_found : (ws : List Lexeme) (k : Kind) (rest : List Lexeme) → kind_in constants ws ≡ Some (k, rest) → IsKind constants ws k rest
  unfolding kind_in kind_by_symbol
  kind_found [] k rest h = absurd cc
  kind_found (symbol s ∷ ws) k rest h =
      symbol_by s (same_symbol s symbols.Array) (same_symbol s symbols.Queue) (same_symbol s symbols.Table) ws k rest (symbols_same s symbols.Array) (symbols_same s symbols.Queue) (symbols_same s symbols.Table) h
  kind_found (number_lexeme n ∷ ws) k rest h = absurd cc
  kind_found (identifier bytes ∷ ws) k rest h = absurd cc
  kind_found (string bytes ∷ ws) k rest h = absurd cc
  kind_found (end_mark ∷ ws) k rest h = absurd cc

  kind_read : (ws : List Lexeme) (k : Kind) (rest : List Lexeme) → IsKind constants ws k rest → kind_in constants ws ≡ Some (k, rest)
  unfolding kind_in kind_by_symbol array_in queue_in table_in size_in
  kind_read ws k rest (an_array {w = w} {n = n} {s = s} {e = e} size low high is) =
      rw (size_at_read w n (symbol symbols.CloseBracket ∷ symbol symbols.Of ∷ symbol s ∷ rest) size, is_at_most 1 n low, is_at_most n 1024 high, of_elem_read s e rest is) refl
  kind_read ws k rest (a_queue {s = s} {e = e} is) = rw (of_elem_read s e rest is) refl
  kind_read ws k rest (a_table {s = s} {e = e} is) = rw (of_elem_read s e rest is) refl

  kind_shorter : (ws : List Lexeme) (k : Kind) (rest : List Lexeme) → IsKind constants ws k rest → length rest ≤ length ws
  kind_shorter ws k rest (an_array size low high is) = omega arith
  kind_shorter ws k rest (a_queue is) = omega arith
  kind_shorter ws k rest (a_table is) = omega arith

  pub kind_exact : (most : ℕ) → Exact most (IsKind constants) (kind_in constants)
  kind_exact most = record {
    found = λ ws k rest h. kind_found ws k rest h;
    read = λ ws k rest long h. kind_read ws k rest h;
    shorter = λ ws k rest h. kind_shorter ws k rest h;
  }
