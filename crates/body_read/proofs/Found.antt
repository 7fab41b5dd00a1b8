-- What is read is spelled so.
use Rattle.std.proofs.Common.{◌≡◌, ℕ, zero, suc, ◌-◌, ◌<◌, Bool, true, false, cond, List, [], ◌∷◌, ◌++◌, length, Option, Some, None, refl, sym, ap, subst, ◌∙◌, append_assoc, arith}
use Rattle.std.specs.Prelude.{Result, Ok, Err, IfOk}
use Rattle.std.proofs.lemmas.List.{length-append}
use Rattle.path_tree.specs.declared.token.Symbol.{Symbol}
use Rattle.path_tree.specs.declared.token.Symbol.TheVariants.{Plus, Minus, OpenParen, CloseParen, OpenBracket, CloseBracket, Comma, First, Lookup, Count}
use Rattle.path_tree.specs.Lexeme.{Lexeme, symbol, number as number_lexeme, identifier, string, end_mark, same_symbol}
use Rattle.path_tree.specs.Reading.{symbol_at}
use Rattle.path_tree.specs.Known.{value_of}
use Rattle.path_tree.proofs.Found.{symbol_found}
use Rattle.path_tree.proofs.SymbolNumbers.{symbols_same}
use Rattle.value_core.specs.declared.kind.Kind.{Kind}
use Rattle.token_read.specs.declared.text_fault.TextFault.{TextFault}
use Rattle.decl_core.specs.Form.{element, oldest, under, Integers, number, count, Texts, Form, an_integer, a_text}
use Rattle.token_read.specs.Reader.{◌>>=◌, Reader, Gives}
use Rattle.token_read.specs.Names.{Names, found_in, name_at, sign_at}
use Rattle.body_read.specs.Reading.{of_sort, integer_form, text_form, value_named, combined, literal_of, level_of, part_in, first_in, count_in, lookup_in, group_in, by_symbol_in, named_in, term_in, with_more, more_at, summed, expr_in, nested_at}
use Rattle.decl_core.specs.Sorts.{array_sort, queue_sort, table_sort}
use Rattle.body_read.specs.Grammar.{ExprText, terms, MoreText, no_more, and_more, TermText, a_number, a_string, a_name, an_element, a_first, a_lookup, a_count, in_parens, sign_symbol, expr_lexemes, more_lexemes, term_lexemes, IsExpr, AddsUp, IsTerm, IsExprBefore, EndsExpr}
use Rattle.body_read.proofs.Literals.{literal_found}
use Rattle.body_read.proofs.Again.{expr_again}

bind_some : {A B : Type 0} (o : Option A) (f : A → Option B) (y : B) → (o >>= f) ≡ Some y → (x : A) × (o ≡ Some x) × (f x ≡ Some y)
bind_some (Some x) f y h = (x, refl, h)
bind_some None f y h = absurd cc

read_is : {A : Type 0} (x y : A × List Lexeme) → Some x ≡ Some y → (x.0 ≡ y.0) × (x.1 ≡ y.1)
read_is x y h = let k : x ≡ y = cc in (ap (λ p. p.0) k, ap (λ p. p.1) k)

triple_is : (x y : ℕ × Kind × List Lexeme) → Some x ≡ Some y → (x.0 ≡ y.0) × (x.1 ≡ y.1) × (x.2 ≡ y.2)
triple_is x y h = let k : x ≡ y = cc in (ap (λ p. p.0) k, ap (λ p. p.1) k, ap (λ p. p.2) k)

closed : (a : List Lexeme) (s : Lexeme) (rest : List Lexeme) → a ++ (s ∷ rest) ≡ (a ++ s ∷ []) ++ rest
closed a s rest = sym (append_assoc a (s ∷ []) rest)

level_found : (depth left : ℕ) → level_of depth ≡ Some left → 0 < depth
level_found zero left h = absurd cc
level_found (suc depth) left h = omega arith

name_found : (ws : List Lexeme) (q : List ℕ × List Lexeme) → name_at ws ≡ Some q → ws ≡ identifier q.0 ∷ q.1
name_found [] q h = absurd cc
name_found (identifier b ∷ ws) q h = let k = read_is (b, ws) q h in ap (λ n. identifier n ∷ ws) k.0 ∙ ap (λ r. identifier q.0 ∷ r) k.1
name_found (symbol s ∷ ws) q h = absurd cc
name_found (number_lexeme n ∷ ws) q h = absurd cc
name_found (string bytes ∷ ws) q h = absurd cc
name_found (end_mark ∷ ws) q h = absurd cc

signed_found : (s : Symbol) (is_plus is_minus plus : Bool) (ws rest : List Lexeme) → (is_plus ≡ true → s ≡ Plus) → (is_minus ≡ true → s ≡ Minus) →
    cond {A = Option (Bool × List Lexeme)} is_plus (Some (true, ws)) (cond {A = Option (Bool × List Lexeme)} is_minus (Some (false, ws)) None) ≡ Some (plus, rest) → symbol s ∷ ws ≡ symbol (sign_symbol plus) ∷ rest
signed_found s true is_minus plus ws rest p m h =
    let k = read_is (true, ws) (plus, rest) h in
    ap (λ x. symbol x ∷ ws) (p refl ∙ ap sign_symbol k.0) ∙ ap (λ r. symbol (sign_symbol plus) ∷ r) k.1
signed_found s false true plus ws rest p m h =
    let k = read_is (false, ws) (plus, rest) h in
    ap (λ x. symbol x ∷ ws) (m refl ∙ ap sign_symbol k.0) ∙ ap (λ r. symbol (sign_symbol plus) ∷ r) k.1
signed_found s false false plus ws rest p m h = absurd cc

sign_found : (plus : Bool) (ws rest : List Lexeme) → sign_at ws ≡ Some (plus, rest) → ws ≡ symbol (sign_symbol plus) ∷ rest
sign_found plus [] rest h = absurd cc
sign_found plus (symbol s ∷ ws) rest h = signed_found s (same_symbol s Plus) (same_symbol s Minus) plus ws rest (symbols_same s Plus) (symbols_same s Minus) h
sign_found plus (number_lexeme n ∷ ws) rest h = absurd cc
sign_found plus (identifier bytes ∷ ws) rest h = absurd cc
sign_found plus (string bytes ∷ ws) rest h = absurd cc
sign_found plus (end_mark ∷ ws) rest h = absurd cc

-- what was read, and its text
pub record PartRead (names : Names) (depth : ℕ) (ws : List Lexeme) (x : ℕ × Kind × List Lexeme) : Type 0 where
  pub bytes : List ℕ
  pub stands : ws ≡ symbol OpenParen ∷ identifier bytes ∷ x.2
  pub deep : 0 < depth
  pub found : found_in names.parts bytes ≡ Some (x.0, x.1)

pub record NestedRead (names : Names) (depth : ℕ) (ws : List Lexeme) (x : Form) (rest : List Lexeme) : Type 0 where
  pub spelt : ExprText
  pub stands : ws ≡ expr_lexemes spelt ++ rest
  pub deep : 0 < depth
  pub is : IsExpr names (depth - 1) spelt x

pub record TermRead (names : Names) (depth : ℕ) (ws : List Lexeme) (x : Form) (rest : List Lexeme) : Type 0 where
  pub spelt : TermText
  pub stands : ws ≡ term_lexemes spelt ++ rest
  pub is : IsTerm names depth spelt x

pub record MoreRead (names : Names) (depth : ℕ) (sum : Integers) (ws : List Lexeme) (y : Integers) (rest : List Lexeme) : Type 0 where
  pub spelt : MoreText
  pub stands : ws ≡ more_lexemes spelt ++ rest
  pub is : AddsUp names depth spelt sum y

abbrev pub NestedFinds : Names → ℕ → Reader Form → Type 0
NestedFinds names depth nested = (ws : List Lexeme) (x : Form) (rest : List Lexeme) → nested ws ≡ Some (x, rest) → NestedRead names depth ws x rest

abbrev pub TermFinds : Names → ℕ → Reader Form → Type 0
TermFinds names depth term = (ws : List Lexeme) (x : Form) (rest : List Lexeme) → term ws ≡ Some (x, rest) → TermRead names depth ws x rest

pub integer_is : (x : Form) (f : Integers) → integer_form x ≡ Some f → x ≡ an_integer f
integer_is (an_integer g) f h = cc
integer_is (a_text g) f h = absurd cc

pub text_is : (x : Form) (f : Texts) → text_form x ≡ Some f → x ≡ a_text f
text_is (an_integer g) f h = absurd cc
text_is (a_text g) f h = cc

pub part_found : (names : Names) (depth : ℕ) (ws : List Lexeme) (x : ℕ × Kind × List Lexeme) → part_in names depth ws ≡ Some x → PartRead names depth ws x
unfolding part_in
part_found names depth ws x h =
    let a = bind_some (symbol_at OpenParen ws) (λ opened. level_of depth >>= λ left. name_at opened >>= λ q. found_in names.parts q.0 >>= λ p. Some (p.0, p.1, q.1)) x h in
    let l = bind_some (level_of depth) (λ left. name_at a.0 >>= λ q. found_in names.parts q.0 >>= λ p. Some (p.0, p.1, q.1)) x a.2 in
    let n = bind_some (name_at a.0) (λ q. found_in names.parts q.0 >>= λ p. Some (p.0, p.1, q.1)) x l.2 in
    let f = bind_some (found_in names.parts n.0.0) (λ p. Some (p.0, p.1, n.0.1)) x n.2 in
    let k = triple_is (f.0.0, f.0.1, n.0.1) x f.2 in
    record {
      bytes = n.0.0;
      stands = symbol_found OpenParen ws a.0 a.1 ∙ ap (λ w. symbol OpenParen ∷ w) (name_found a.0 n.0 n.1 ∙ ap (λ r. identifier n.0.0 ∷ r) k.2);
      deep = level_found depth l.0 l.1;
      found = f.1 ∙ ap (λ p. Some (p, f.0.1)) k.0 ∙ ap (λ kind. Some (x.0, kind)) k.1;
    }

term_first : (names : Names) (depth : ℕ) (ws : List Lexeme) (x : Form) (rest : List Lexeme) → first_in names depth ws ≡ Some (x, rest) → TermRead names depth (symbol First ∷ ws) x rest
unfolding first_in
term_first names depth ws x rest h =
    let a = bind_some (part_in names depth ws) (λ p. queue_sort p.1 >>= λ e. symbol_at CloseParen p.2 >>= λ r. Some (of_sort e (oldest p.0), r)) (x, rest) h in
    let b = bind_some (queue_sort a.0.1) (λ e. symbol_at CloseParen a.0.2 >>= λ r. Some (of_sort e (oldest a.0.0), r)) (x, rest) a.2 in
    let d = bind_some (symbol_at CloseParen a.0.2) (λ r. Some (of_sort b.0 (oldest a.0.0), r)) (x, rest) b.2 in
    let k = read_is (of_sort b.0 (oldest a.0.0), d.0) (x, rest) d.2 in
    let f = part_found names depth ws a.0 a.1 in
    let closing : a.0.2 ≡ symbol CloseParen ∷ rest = symbol_found CloseParen a.0.2 d.0 d.1 ∙ ap (λ r. symbol CloseParen ∷ r) k.1 in
    record {
      spelt = a_first f.bytes;
      stands = ap (λ w. symbol First ∷ w) (f.stands ∙ ap (λ r. symbol OpenParen ∷ identifier f.bytes ∷ r) closing);
      is = (a.0.0, b.0, record { kind = a.0.1; found = f.found; fits = b.1 }, f.deep, sym k.0);
    }

term_count : (names : Names) (depth : ℕ) (ws : List Lexeme) (x : Form) (rest : List Lexeme) → count_in names depth ws ≡ Some (x, rest) → TermRead names depth (symbol Count ∷ ws) x rest
unfolding count_in
term_count names depth ws x rest h =
    let a = bind_some (part_in names depth ws) (λ p. symbol_at CloseParen p.2 >>= λ r. Some (an_integer (count p.0), r)) (x, rest) h in
    let d = bind_some (symbol_at CloseParen a.0.2) (λ r. Some (an_integer (count a.0.0), r)) (x, rest) a.2 in
    let k = read_is (an_integer (count a.0.0), d.0) (x, rest) d.2 in
    let f = part_found names depth ws a.0 a.1 in
    let closing : a.0.2 ≡ symbol CloseParen ∷ rest = symbol_found CloseParen a.0.2 d.0 d.1 ∙ ap (λ r. symbol CloseParen ∷ r) k.1 in
    record {
      spelt = a_count f.bytes;
      stands = ap (λ w. symbol Count ∷ w) (f.stands ∙ ap (λ r. symbol OpenParen ∷ identifier f.bytes ∷ r) closing);
      is = (a.0.0, a.0.1, f.found, f.deep, sym k.0);
    }

term_lookup : (names : Names) (depth : ℕ) (nested : Reader Form) → NestedFinds names depth nested → (ws : List Lexeme) (x : Form) (rest : List Lexeme) → lookup_in names nested depth ws ≡ Some (x, rest) →
    TermRead names depth (symbol Lookup ∷ ws) x rest
unfolding lookup_in
term_lookup names depth nested finds ws x rest h =
    let a = bind_some (part_in names depth ws) (λ p. table_sort p.1 >>= λ e. symbol_at Comma p.2 >>= λ o. nested o >>= λ y. text_form y.0 >>= λ t. symbol_at CloseParen y.1 >>= λ r. Some (of_sort e (under p.0 t), r)) (x, rest) h in
    let b = bind_some (table_sort a.0.1) (λ e. symbol_at Comma a.0.2 >>= λ o. nested o >>= λ y. text_form y.0 >>= λ t. symbol_at CloseParen y.1 >>= λ r. Some (of_sort e (under a.0.0 t), r)) (x, rest) a.2 in
    let c = bind_some (symbol_at Comma a.0.2) (λ o. nested o >>= λ y. text_form y.0 >>= λ t. symbol_at CloseParen y.1 >>= λ r. Some (of_sort b.0 (under a.0.0 t), r)) (x, rest) b.2 in
    let i = bind_some (nested c.0) (λ y. text_form y.0 >>= λ t. symbol_at CloseParen y.1 >>= λ r. Some (of_sort b.0 (under a.0.0 t), r)) (x, rest) c.2 in
    let n = bind_some (text_form i.0.0) (λ t. symbol_at CloseParen i.0.1 >>= λ r. Some (of_sort b.0 (under a.0.0 t), r)) (x, rest) i.2 in
    let d = bind_some (symbol_at CloseParen i.0.1) (λ r. Some (of_sort b.0 (under a.0.0 n.0), r)) (x, rest) n.2 in
    let k = read_is (of_sort b.0 (under a.0.0 n.0), d.0) (x, rest) d.2 in
    let f = part_found names depth ws a.0 a.1 in
    let g = finds c.0 i.0.0 i.0.1 i.1 in
    let closing : i.0.1 ≡ symbol CloseParen ∷ rest = symbol_found CloseParen i.0.1 d.0 d.1 ∙ ap (λ r. symbol CloseParen ∷ r) k.1 in
    let comma : a.0.2 ≡ symbol Comma ∷ ((expr_lexemes g.spelt ++ symbol CloseParen ∷ []) ++ rest) = symbol_found Comma a.0.2 c.0 c.1 ∙ ap (λ w. symbol Comma ∷ w) (g.stands ∙ ap (λ r. expr_lexemes g.spelt ++ r) closing ∙ closed (expr_lexemes g.spelt) (symbol CloseParen) rest) in
    record {
      spelt = a_lookup f.bytes g.spelt;
      stands = ap (λ w. symbol Lookup ∷ w) (f.stands ∙ ap (λ r. symbol OpenParen ∷ identifier f.bytes ∷ r) comma);
      is = (a.0.0, b.0, n.0, record { kind = a.0.1; found = f.found; fits = b.1 }, f.deep, subst (IsExpr names (depth - 1) g.spelt) (text_is i.0.0 n.0 n.1) g.is, sym k.0);
    }

term_group : (names : Names) (depth : ℕ) (nested : Reader Form) → NestedFinds names depth nested → (ws : List Lexeme) (x : Form) (rest : List Lexeme) → group_in nested ws ≡ Some (x, rest) → TermRead names depth (symbol OpenParen ∷ ws) x rest
unfolding group_in
term_group names depth nested finds ws x rest h =
    let a = bind_some (nested ws) (λ y. symbol_at CloseParen y.1 >>= λ r. Some (y.0, r)) (x, rest) h in
    let b = bind_some (symbol_at CloseParen a.0.1) (λ r. Some (a.0.0, r)) (x, rest) a.2 in
    let k = read_is (a.0.0, b.0) (x, rest) b.2 in
    let f = finds ws a.0.0 a.0.1 a.1 in
    let closing : a.0.1 ≡ symbol CloseParen ∷ rest = symbol_found CloseParen a.0.1 b.0 b.1 ∙ ap (λ r. symbol CloseParen ∷ r) k.1 in
    record {
      spelt = in_parens f.spelt;
      stands = ap (λ w. symbol OpenParen ∷ w) (f.stands ∙ ap (λ r. expr_lexemes f.spelt ++ r) closing ∙ closed (expr_lexemes f.spelt) (symbol CloseParen) rest);
      is = (f.deep, subst (IsExpr names (depth - 1) f.spelt) k.0 f.is);
    }

term_named : (names : Names) (depth : ℕ) (nested : Reader Form) → NestedFinds names depth nested → (o : Option (List Lexeme)) (bytes : List ℕ) (ws : List Lexeme) (x : Form) (rest : List Lexeme) → symbol_at OpenBracket ws ≡ o →
    named_in names nested bytes ws o ≡ Some (x, rest) → TermRead names depth (identifier bytes ∷ ws) x rest
unfolding named_in
term_named names depth nested finds None bytes ws x rest next h =
    let a = bind_some (value_named names bytes (value_of names.constants bytes)) (λ f. Some (f, ws)) (x, rest) h in
    let k = read_is (a.0, ws) (x, rest) a.2 in
    record { spelt = a_name bytes; stands = ap (λ w. identifier bytes ∷ w) k.1; is = a.1 ∙ ap Some k.0 }
term_named names depth nested finds (Some opened) bytes ws x rest next h =
    let a = bind_some (found_in names.parts bytes) (λ p. array_sort p.1 >>= λ e. nested opened >>= λ y. integer_form y.0 >>= λ i. symbol_at CloseBracket y.1 >>= λ r. Some (of_sort e (element p.0 i), r)) (x, rest) h in
    let b = bind_some (array_sort a.0.1) (λ e. nested opened >>= λ y. integer_form y.0 >>= λ i. symbol_at CloseBracket y.1 >>= λ r. Some (of_sort e (element a.0.0 i), r)) (x, rest) a.2 in
    let i = bind_some (nested opened) (λ y. integer_form y.0 >>= λ i. symbol_at CloseBracket y.1 >>= λ r. Some (of_sort b.0 (element a.0.0 i), r)) (x, rest) b.2 in
    let n = bind_some (integer_form i.0.0) (λ j. symbol_at CloseBracket i.0.1 >>= λ r. Some (of_sort b.0 (element a.0.0 j), r)) (x, rest) i.2 in
    let d = bind_some (symbol_at CloseBracket i.0.1) (λ r. Some (of_sort b.0 (element a.0.0 n.0), r)) (x, rest) n.2 in
    let k = read_is (of_sort b.0 (element a.0.0 n.0), d.0) (x, rest) d.2 in
    let g = finds opened i.0.0 i.0.1 i.1 in
    let closing : i.0.1 ≡ symbol CloseBracket ∷ rest = symbol_found CloseBracket i.0.1 d.0 d.1 ∙ ap (λ r. symbol CloseBracket ∷ r) k.1 in
    record {
      spelt = an_element bytes g.spelt;
      stands = ap (λ w. identifier bytes ∷ w) (symbol_found OpenBracket ws opened next ∙ ap (λ w. symbol OpenBracket ∷ w) (g.stands ∙ ap (λ r. expr_lexemes g.spelt ++ r) closing ∙ closed (expr_lexemes g.spelt) (symbol CloseBracket) rest));
      is = (a.0.0, b.0, n.0, record { kind = a.0.1; found = a.1; fits = b.1 }, g.deep, subst (IsExpr names (depth - 1) g.spelt) (integer_is i.0.0 n.0 n.1) g.is, sym k.0);
    }

by_symbol_found : (names : Names) (depth : ℕ) (nested : Reader Form) → NestedFinds names depth nested → (s : Symbol) (paren first counted looked : Bool) (ws : List Lexeme) (x : Form) (rest : List Lexeme) →
    (paren ≡ true → s ≡ OpenParen) → (first ≡ true → s ≡ First) → (counted ≡ true → s ≡ Count) → (looked ≡ true → s ≡ Lookup) →
    cond paren (group_in nested ws) (cond first (first_in names depth ws) (cond counted (count_in names depth ws) (cond looked (lookup_in names nested depth ws) None))) ≡ Some (x, rest) → TermRead names depth (symbol s ∷ ws) x rest
by_symbol_found names depth nested finds s true first counted looked ws x rest p f c l h = rw (p refl) (term_group names depth nested finds ws x rest h)
by_symbol_found names depth nested finds s false true counted looked ws x rest p f c l h = rw (f refl) (term_first names depth ws x rest h)
by_symbol_found names depth nested finds s false false true looked ws x rest p f c l h = rw (c refl) (term_count names depth ws x rest h)
by_symbol_found names depth nested finds s false false false true ws x rest p f c l h = rw (l refl) (term_lookup names depth nested finds ws x rest h)
by_symbol_found names depth nested finds s false false false false ws x rest p f c l h = absurd cc

pub term_found : (names : Names) (depth : ℕ) (nested : Reader Form) → NestedFinds names depth nested → TermFinds names depth (term_in names nested depth)
unfolding term_in by_symbol_in
term_found names depth nested finds [] x rest h = absurd cc
term_found names depth nested finds (number_lexeme n ∷ ws) x rest h =
    let k = read_is (an_integer (number n), ws) (x, rest) h in
    record { spelt = a_number n; stands = ap (λ w. number_lexeme n ∷ w) k.1; is = sym k.0 }
term_found names depth nested finds (string bytes ∷ ws) x rest h =
    let a = bind_some (literal_of bytes) (λ f. Some (f, ws)) (x, rest) h in
    let k = read_is (a.0, ws) (x, rest) a.2 in
    let f = literal_found bytes a.0 a.1 in
    record { spelt = a_string bytes; stands = ap (λ w. string bytes ∷ w) k.1; is = (f.0, sym k.0 ∙ f.1) }
term_found names depth nested finds (identifier bytes ∷ ws) x rest h = term_named names depth nested finds (symbol_at OpenBracket ws) bytes ws x rest refl h
term_found names depth nested finds (symbol s ∷ ws) x rest h =
    by_symbol_found names depth nested finds s (same_symbol s OpenParen) (same_symbol s First) (same_symbol s Count) (same_symbol s Lookup) ws x rest (symbols_same s OpenParen) (symbols_same s First) (symbols_same s Count) (symbols_same s Lookup) h
term_found names depth nested finds (end_mark ∷ ws) x rest h = absurd cc

more_next : (names : Names) (depth : ℕ) (term : Reader Form) → TermFinds names depth term → (others : Integers → Reader Integers) →
    ((sum : Integers) (ws : List Lexeme) (y : Integers) (rest : List Lexeme) → others sum ws ≡ Some (y, rest) → MoreRead names depth sum ws y rest) →
    (o : Option (Bool × List Lexeme)) (sum : Integers) (ws : List Lexeme) (y : Integers) (rest : List Lexeme) → sign_at ws ≡ o → with_more others term sum ws o ≡ Some (y, rest) → MoreRead names depth sum ws y rest
unfolding with_more
more_next names depth term finds others found None sum ws y rest next h =
    let k = read_is (sum, ws) (y, rest) h in
    record { spelt = no_more; stands = k.1; is = sym k.0 }
more_next names depth term finds others found (Some (plus, behind)) sum ws y rest next h =
    let a = bind_some (term behind) (λ x. integer_form x.0 >>= λ f. others (combined plus sum f) x.1) (y, rest) h in
    let b = bind_some (integer_form a.0.0) (λ f. others (combined plus sum f) a.0.1) (y, rest) a.2 in
    let f = finds behind a.0.0 a.0.1 a.1 in
    let m = found (combined plus sum b.0) a.0.1 y rest b.2 in
    record {
      spelt = and_more plus f.spelt m.spelt;
      stands = sign_found plus ws behind next ∙ ap (λ w. symbol (sign_symbol plus) ∷ w) (f.stands ∙ ap (λ r. term_lexemes f.spelt ++ r) m.stands ∙ sym (append_assoc (term_lexemes f.spelt) (more_lexemes m.spelt) rest));
      is = (b.0, subst (IsTerm names depth f.spelt) (integer_is a.0.0 b.0 b.1) f.is, m.is);
    }

more_found : (names : Names) (depth : ℕ) (term : Reader Form) → TermFinds names depth term → (most : ℕ) (sum : Integers) (ws : List Lexeme) (y : Integers) (rest : List Lexeme) → more_at term most sum ws ≡ Some (y, rest) → MoreRead names depth sum ws y rest
unfolding more_at
more_found names depth term finds zero sum ws y rest h = absurd cc
more_found names depth term finds (suc most) sum ws y rest h = more_next names depth term finds (more_at term most) (more_found names depth term finds most) (sign_at ws) sum ws y rest refl h

-- a term and what is added to it are an expression
sum_is_expr : (names : Names) (depth : ℕ) (t : TermText) (m : MoreText) (f y : Integers) (x : Form) → IsTerm names depth t (an_integer f) → AddsUp names depth m f y → x ≡ an_integer y → IsExpr names depth (terms t m) x
sum_is_expr names depth t no_more f y x first adds is = subst (IsTerm names depth t) (ap an_integer (sym adds) ∙ sym is) first
sum_is_expr names depth t (and_more plus u m) f y x first adds is = (f, y, first, adds, is)

summed_found : (names : Names) (depth most : ℕ) (term : Reader Form) → TermFinds names depth term → (o : Option (Bool × List Lexeme)) (ws : List Lexeme) (a : Form × List Lexeme) (x : Form) (rest : List Lexeme) →
    TermRead names depth ws a.0 a.1 → summed term most a o ≡ Some (x, rest) → IsExprBefore names depth ws x rest
unfolding summed
summed_found names depth most term finds None ws a x rest f h =
    let k = read_is a (x, rest) h in
    record {
      text = terms f.spelt no_more;
      stands = f.stands ∙ ap (λ r. term_lexemes f.spelt ++ r) k.1 ∙ sym (append_assoc (term_lexemes f.spelt) [] rest);
      is = subst (IsTerm names depth f.spelt) k.0 f.is;
    }
summed_found names depth most term finds (Some o) ws a x rest f h =
    let b = bind_some (integer_form a.0) (λ g. more_at term most g a.1 >>= λ y. Some (an_integer y.0, y.1)) (x, rest) h in
    let c = bind_some (more_at term most b.0 a.1) (λ y. Some (an_integer y.0, y.1)) (x, rest) b.2 in
    let k = read_is (an_integer c.0.0, c.0.1) (x, rest) c.2 in
    let m = more_found names depth term finds most b.0 a.1 c.0.0 c.0.1 c.1 in
    record {
      text = terms f.spelt m.spelt;
      stands = f.stands ∙ ap (λ r. term_lexemes f.spelt ++ r) (m.stands ∙ ap (λ r. more_lexemes m.spelt ++ r) k.1) ∙ sym (append_assoc (term_lexemes f.spelt) (more_lexemes m.spelt) rest);
      is = sum_is_expr names depth f.spelt m.spelt b.0 c.0.0 x (subst (IsTerm names depth f.spelt) (integer_is a.0 b.0 b.1) f.is) m.is (sym k.0);
    }

pub expr_found : (names : Names) (depth most : ℕ) (term : Reader Form) → TermFinds names depth term → (ws : List Lexeme) (x : Form) (rest : List Lexeme) → expr_in term most ws ≡ Some (x, rest) → IsExprBefore names depth ws x rest
unfolding expr_in
expr_found names depth most term finds ws x rest h =
    let a = bind_some (term ws) (λ y. summed term most y (sign_at y.1)) (x, rest) h in
    summed_found names depth most term finds (sign_at a.0.1) ws a.0 x rest (finds ws a.0.0 a.0.1 a.1) a.2

pub nested_found : (names : Names) (most depth : ℕ) → NestedFinds names depth (nested_at names most depth)
unfolding nested_at
nested_found names most zero ws x rest h = absurd cc
nested_found names most (suc depth) ws x rest h =
    let f = expr_found names depth most (term_in names (nested_at names most depth) depth) (term_found names depth (nested_at names most depth) (nested_found names most depth)) ws x rest h in
    let same : suc depth - 1 ≡ depth = omega arith in
    record { spelt = f.text; stands = f.stands; deep = omega arith; is = subst (λ d. IsExpr names d f.text x) (sym same) f.is }

pub is_found : {X : Type 0} (names : Names) (most depth : ℕ) (ws : List Lexeme) (view : X → Form × List Lexeme) (r : Result X TextFault) → Gives view r (expr_in (term_in names (nested_at names most depth) depth) most ws) →
    IfOk r (λ x. IsExprBefore names depth ws (view x).0 (view x).1)
is_found names most depth ws view (Ok x) given =
    expr_found names depth most (term_in names (nested_at names most depth) depth) (term_found names depth (nested_at names most depth) (nested_found names most depth)) ws (view x).0 (view x).1 given
is_found names most depth ws view (Err e) given = tt

pub is_read : (names : Names) (most depth : ℕ) (ws : List Lexeme) (x : Form) (rest : List Lexeme) → length ws < most → IsExprBefore names depth ws x rest → EndsExpr rest →
    expr_in (term_in names (nested_at names most depth) depth) most ws ≡ Some (x, rest)
is_read names most depth ws x rest long p ends =
    let total = ap length p.stands in
    let parts = length-append (expr_lexemes p.text) rest in
    ap (expr_in (term_in names (nested_at names most depth) depth) most) p.stands ∙ expr_again names most depth p.text rest x p.is (omega arith) ends
