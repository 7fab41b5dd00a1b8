-- Conditions are read exactly.
use Rattle.std.proofs.Common.{◌≡◌, ℕ, zero, suc, ◌-◌, ◌<◌, ◌≤◌, Bool, true, false, cond, List, [], ◌∷◌, ◌++◌, length, Option, Some, None, refl, sym, ap, ◌∙◌, arith}
use Rattle.std.proofs.lemmas.List.{length-append}
use Rattle.path_tree.specs.declared.token.Symbol.{Symbol}
use Rattle.path_tree.specs.declared.token.Symbol.TheVariants as symbols
use Rattle.path_tree.specs.Lexeme.{Lexeme, symbol, number as number_lexeme, identifier, string, end_mark, same_symbol}
use Rattle.path_tree.specs.Reading.{symbol_at}
use Rattle.path_tree.proofs.Found.{symbol_found}
use Rattle.path_tree.proofs.SymbolNumbers.{symbols_same}
use Rattle.value_core.specs.declared.kind.Elem.{Elem}
use Rattle.value_core.specs.declared.kind.Kind.{Kind}
use Rattle.decl_core.specs.declared.stmt.Relation.{Relation}
use Rattle.decl_core.specs.declared.stmt.Relation.TheVariants as relations
use Rattle.decl_core.specs.Form.{Texts, Form, an_integer, a_text, Condition, compare, same_texts, other_texts, has, is_not}
use Rattle.token_read.specs.Reader.{Reader}
use Rattle.token_read.specs.Names.{Names, found_in}
use Rattle.body_read.specs.Reading.{text_form, part_in, term_in, nested_at}
use Rattle.decl_core.specs.Sorts.{table_sort}
use Rattle.body_read.specs.Grammar.{ExprText, terms, TermText, a_number, a_string, a_name, an_element, a_first, a_lookup, a_count, in_parens, term_lexemes, more_lexemes, expr_lexemes, IsPart, IsExprBefore, EndsExpr}
use Rattle.body_read.specs.Statements.{IsRelation, equal, differ, less, less_equal, greater, greater_equal, Compares, integers, equal_texts, different_texts, IsCond, comparison, a_has, a_not}
use Rattle.body_read.specs.StatementReading.{expr_at, relation_of, relation_at, left_of, compared, comparison_in, has_in, not_in, plain_condition_in, condition_in, deeper_condition, condition_at}
use Rattle.body_read.proofs.Again.{part_again}
use Rattle.body_read.proofs.Found.{part_found, text_is, term_found, nested_found, expr_found, is_read}
use Rattle.token_read.proofs.Exact.{bind_some, read_is}

some_lexemes : (t : TermText) → 0 < length (term_lexemes t)
some_lexemes (a_number n) = omega arith
some_lexemes (a_string bytes) = omega arith
some_lexemes (a_name bytes) = omega arith
some_lexemes (an_element bytes e) = omega arith
some_lexemes (a_first bytes) = omega arith
some_lexemes (a_lookup bytes e) = omega arith
some_lexemes (a_count bytes) = omega arith
some_lexemes (in_parens e) = omega arith

text_shorter : (e : ExprText) (rest : List Lexeme) → length rest < length (expr_lexemes e ++ rest)
text_shorter (terms t m) rest =
    let some = some_lexemes t in
    let inner = length-append (term_lexemes t) (more_lexemes m) in
    let outer = length-append (expr_lexemes (terms t m)) rest in
    omega arith

-- an expression is not empty
pub expr_shorter : (names : Names) (depth : ℕ) (ws : List Lexeme) (x : Form) (rest : List Lexeme) → IsExprBefore names depth ws x rest → length rest < length ws
expr_shorter names depth ws x rest p =
    let total = ap length p.stands in
    let some = text_shorter p.text rest in
    omega arith

text_no_not : (e : ExprText) (rest : List Lexeme) → symbol_at symbols.Not (expr_lexemes e ++ rest) ≡ None
text_no_not (terms (a_number n) m) rest = refl
text_no_not (terms (a_string bytes) m) rest = refl
text_no_not (terms (a_name bytes) m) rest = refl
text_no_not (terms (an_element bytes e) m) rest = refl
text_no_not (terms (a_first bytes) m) rest = refl
text_no_not (terms (a_lookup bytes e) m) rest = refl
text_no_not (terms (a_count bytes) m) rest = refl
text_no_not (terms (in_parens e) m) rest = refl

text_no_has : (e : ExprText) (rest : List Lexeme) → symbol_at symbols.Has (expr_lexemes e ++ rest) ≡ None
text_no_has (terms (a_number n) m) rest = refl
text_no_has (terms (a_string bytes) m) rest = refl
text_no_has (terms (a_name bytes) m) rest = refl
text_no_has (terms (an_element bytes e) m) rest = refl
text_no_has (terms (a_first bytes) m) rest = refl
text_no_has (terms (a_lookup bytes e) m) rest = refl
text_no_has (terms (a_count bytes) m) rest = refl
text_no_has (terms (in_parens e) m) rest = refl

-- an expression begins neither with `not` nor with `has`
expr_no_not : (names : Names) (depth : ℕ) (ws : List Lexeme) (x : Form) (rest : List Lexeme) → IsExprBefore names depth ws x rest → symbol_at symbols.Not ws ≡ None
expr_no_not names depth ws x rest p = ap (symbol_at symbols.Not) p.stands ∙ text_no_not p.text rest

expr_no_has : (names : Names) (depth : ℕ) (ws : List Lexeme) (x : Form) (rest : List Lexeme) → IsExprBefore names depth ws x rest → symbol_at symbols.Has ws ≡ None
expr_no_has names depth ws x rest p = ap (symbol_at symbols.Has) p.stands ∙ text_no_has p.text rest

-- what the reading of an expression finds
pub expr_is_found : (names : Names) (most depth : ℕ) (ws : List Lexeme) (x : Form) (rest : List Lexeme) → expr_at names most depth ws ≡ Some (x, rest) → IsExprBefore names depth ws x rest
expr_is_found names most depth ws x rest h =
    expr_found names depth most (term_in names (nested_at names most depth) depth) (term_found names depth (nested_at names most depth) (nested_found names most depth)) ws x rest h

pub nested_is_found : (names : Names) (most depth : ℕ) (ws : List Lexeme) (x : Form) (rest : List Lexeme) → nested_at names most depth ws ≡ Some (x, rest) → IsExprBefore names (depth - 1) ws x rest
nested_is_found names most depth ws x rest h =
    let f = nested_found names most depth ws x rest h in
    record { text = f.spelt; stands = f.stands; is = f.is }

pub nested_is_read : (names : Names) (most depth : ℕ) (ws : List Lexeme) (x : Form) (rest : List Lexeme) → length ws < most → IsExprBefore names depth ws x rest → EndsExpr rest → nested_at names most (suc depth) ws ≡ Some (x, rest)
unfolding nested_at
nested_is_read names most depth ws x rest long p ends = is_read names most depth ws x rest long p ends

-- an expression along equations
pub expr_as : (names : Names) (depth : ℕ) (ws : List Lexeme) (x y : Form) (rest behind : List Lexeme) → IsExprBefore names depth ws x rest → x ≡ y → rest ≡ behind → IsExprBefore names depth ws y behind
expr_as names depth ws x y rest behind p same_form same_rest = rw (sym same_form, sym same_rest) p

relation_read : (s : Symbol) (r : Relation) → IsRelation s r → relation_of s ≡ Some r
relation_read s r equal = refl
relation_read s r differ = refl
relation_read s r less = refl
relation_read s r less_equal = refl
relation_read s r greater = refl
relation_read s r greater_equal = refl

relation_ends : (s : Symbol) (r : Relation) (ws : List Lexeme) → IsRelation s r → EndsExpr (symbol s ∷ ws)
relation_ends s r ws equal = record { no_sign = refl; no_index = refl }
relation_ends s r ws differ = record { no_sign = refl; no_index = refl }
relation_ends s r ws less = record { no_sign = refl; no_index = refl }
relation_ends s r ws less_equal = record { no_sign = refl; no_index = refl }
relation_ends s r ws greater = record { no_sign = refl; no_index = refl }
relation_ends s r ws greater_equal = record { no_sign = refl; no_index = refl }

relation_is : (s t : Symbol) (r q : Relation) → s ≡ t → Some q ≡ Some r → IsRelation t q → IsRelation s r
relation_is s t r q same h is = let k : r ≡ q = cc in rw (same, k) is

relation_chosen : (s : Symbol) (a b c d e f : Bool) (r : Relation) → (a ≡ true → s ≡ symbols.Equal) → (b ≡ true → s ≡ symbols.Differ) → (c ≡ true → s ≡ symbols.Less) → (d ≡ true → s ≡ symbols.LessEqual) → (e ≡ true → s ≡ symbols.Greater) → (f ≡ true → s ≡ symbols.GreaterEqual) →
    cond {A = Option Relation} a (Some relations.Equal) (cond {A = Option Relation} b (Some relations.Differ) (cond {A = Option Relation} c (Some relations.Less) (cond {A = Option Relation} d (Some relations.LessEqual) (cond {A = Option Relation} e (Some relations.Greater) (cond {A = Option Relation} f (Some relations.GreaterEqual) None))))) ≡ Some r →
    IsRelation s r
relation_chosen s true b c d e f r p q u v w x h = relation_is s symbols.Equal r relations.Equal (p refl) h equal
relation_chosen s false true c d e f r p q u v w x h = relation_is s symbols.Differ r relations.Differ (q refl) h differ
relation_chosen s false false true d e f r p q u v w x h = relation_is s symbols.Less r relations.Less (u refl) h less
relation_chosen s false false false true e f r p q u v w x h = relation_is s symbols.LessEqual r relations.LessEqual (v refl) h less_equal
relation_chosen s false false false false true f r p q u v w x h = relation_is s symbols.Greater r relations.Greater (w refl) h greater
relation_chosen s false false false false false true r p q u v w x h = relation_is s symbols.GreaterEqual r relations.GreaterEqual (x refl) h greater_equal
relation_chosen s false false false false false false r p q u v w x h = absurd cc

relation_of_found : (s : Symbol) (r : Relation) → relation_of s ≡ Some r → IsRelation s r
relation_of_found s r h =
    relation_chosen s (same_symbol s symbols.Equal) (same_symbol s symbols.Differ) (same_symbol s symbols.Less) (same_symbol s symbols.LessEqual) (same_symbol s symbols.Greater) (same_symbol s symbols.GreaterEqual) r
    (symbols_same s symbols.Equal) (symbols_same s symbols.Differ) (symbols_same s symbols.Less) (symbols_same s symbols.LessEqual) (symbols_same s symbols.Greater) (symbols_same s symbols.GreaterEqual) h

-- a symbol in front that compares
record RelationRead (ws : List Lexeme) (r : Relation) (rest : List Lexeme) : Type 0 where
  pub by : Symbol
  pub stands : ws ≡ symbol by ∷ rest
  pub is : IsRelation by r

relation_found : (ws : List Lexeme) (x : Relation × List Lexeme) → relation_at ws ≡ Some x → RelationRead ws x.0 x.1
relation_found [] x h = absurd cc
relation_found (symbol s ∷ ws) x h =
    let a = bind_some (relation_of s) _ x h in
    let k = read_is (a.0, ws) x a.2 in
    record { by = s; stands = ap (λ w. symbol s ∷ w) k.1; is = relation_of_found s x.0 (a.1 ∙ ap Some k.0) }
relation_found (number_lexeme n ∷ ws) x h = absurd cc
relation_found (identifier bytes ∷ ws) x h = absurd cc
relation_found (string bytes ∷ ws) x h = absurd cc
relation_found (end_mark ∷ ws) x h = absurd cc

left_read : (r : Relation) (x y : Form) (c : Condition) → Compares r x y c → left_of r x ≡ Some x
left_read r x y c integers = refl
left_read r x y c equal_texts = refl
left_read r x y c different_texts = refl

compared_read : (r : Relation) (x y : Form) (c : Condition) → Compares r x y c → compared r x y ≡ Some c
compared_read r x y c integers = refl
compared_read r x y c equal_texts = refl
compared_read r x y c different_texts = refl

left_found : (r : Relation) (x y : Form) → left_of r x ≡ Some y → y ≡ x
left_found r (an_integer a) y h = cc
left_found relations.Equal (a_text a) y h = cc
left_found relations.Differ (a_text a) y h = cc
left_found relations.Less (a_text a) y h = absurd cc
left_found relations.LessEqual (a_text a) y h = absurd cc
left_found relations.Greater (a_text a) y h = absurd cc
left_found relations.GreaterEqual (a_text a) y h = absurd cc

compares_is : (r : Relation) (x y : Form) (c d : Condition) → Some d ≡ Some c → Compares r x y d → Compares r x y c
compares_is r x y c d h is = let k : c ≡ d = cc in rw k is

compared_found : (r : Relation) (x y : Form) (c : Condition) → compared r x y ≡ Some c → Compares r x y c
compared_found r (an_integer a) (an_integer b) c h = compares_is r (an_integer a) (an_integer b) c (compare r a b) h integers
compared_found r (an_integer a) (a_text b) c h = absurd cc
compared_found r (a_text a) (an_integer b) c h = absurd cc
compared_found relations.Equal (a_text a) (a_text b) c h = compares_is relations.Equal (a_text a) (a_text b) c (same_texts a b) h equal_texts
compared_found relations.Differ (a_text a) (a_text b) c h = compares_is relations.Differ (a_text a) (a_text b) c (other_texts a b) h different_texts
compared_found relations.Less (a_text a) (a_text b) c h = absurd cc
compared_found relations.LessEqual (a_text a) (a_text b) c h = absurd cc
compared_found relations.Greater (a_text a) (a_text b) c h = absurd cc
compared_found relations.GreaterEqual (a_text a) (a_text b) c h = absurd cc

-- a condition is not longer than what it stands before
pub cond_shorter : (names : Names) (depth : ℕ) (ws : List Lexeme) (c : Condition) (rest : List Lexeme) → IsCond names depth ws c rest → length rest ≤ length ws
cond_shorter names depth ws c rest (comparison {vs = vs} {x = x} {y = y} {s = s} first by other compares) =
    let a = expr_shorter names depth ws x (symbol s ∷ vs) first in
    let b = expr_shorter names depth vs y rest other in
    omega arith
cond_shorter names depth ws c rest (a_has {depth = d} {ws = vs} {k = k} part is) =
    let a = expr_shorter names d vs (a_text k) (symbol symbols.CloseParen ∷ rest) is in
    omega arith
cond_shorter names depth ws c rest (a_not {depth = d} {ws = vs} {c = b} is) =
    let a = cond_shorter names d vs b rest is in
    omega arith

comparison_read : (names : Names) (most depth : ℕ) (ws vs rest : List Lexeme) (x y : Form) (s : Symbol) (r : Relation) (c : Condition) → expr_at names most depth ws ≡ Some (x, symbol s ∷ vs) → relation_of s ≡ Some r →
    left_of r x ≡ Some x → expr_at names most depth vs ≡ Some (y, rest) → compared r x y ≡ Some c → comparison_in (expr_at names most depth) ws ≡ Some (c, rest)
unfolding comparison_in
comparison_read names most depth ws vs rest x y s r c first by fits other compares = rw (first, by, fits, other, compares) refl

has_read : (names : Names) (most depth p : ℕ) (kind : Kind) (sort : Elem) (bytes : List ℕ) (ws rest : List Lexeme) (k : Texts) → found_in names.parts bytes ≡ Some (p, kind) → table_sort kind ≡ Some sort →
    nested_at names most (suc depth) ws ≡ Some (a_text k, symbol symbols.CloseParen ∷ rest) →
    has_in names (nested_at names most (suc depth)) (suc depth) (symbol symbols.OpenParen ∷ identifier bytes ∷ symbol symbols.Comma ∷ ws) ≡ Some (has p k, rest)
unfolding has_in
has_read names most depth p kind sort bytes ws rest k found fits read = rw (part_again names (suc depth) p kind bytes (symbol symbols.Comma ∷ ws) (omega arith) found, fits, read) refl

plain_read : (names : Names) (most depth : ℕ) (ws rest : List Lexeme) (c : Condition) → symbol_at symbols.Not ws ≡ None → symbol_at symbols.Has ws ≡ None → comparison_in (expr_at names most depth) ws ≡ Some (c, rest) → condition_at names most depth ws ≡ Some (c, rest)
unfolding condition_in plain_condition_in
plain_read names most depth ws rest c no_not no_has read = rw (no_not, no_has) read

has_is_read : (names : Names) (most depth : ℕ) (ws rest : List Lexeme) (c : Condition) → has_in names (nested_at names most depth) depth ws ≡ Some (c, rest) → condition_at names most depth (symbol symbols.Has ∷ ws) ≡ Some (c, rest)
unfolding condition_in plain_condition_in
has_is_read names most depth ws rest c read = read

not_is_read : (names : Names) (most depth : ℕ) (ws rest : List Lexeme) (c : Condition) → condition_at names most depth ws ≡ Some (c, rest) → condition_at names most (suc depth) (symbol symbols.Not ∷ ws) ≡ Some (is_not c, rest)
unfolding condition_in not_in deeper_condition
not_is_read names most depth ws rest c read = rw read refl

-- a condition of the grammar is read whole
pub cond_read : (names : Names) (most depth : ℕ) (ws : List Lexeme) (c : Condition) (rest : List Lexeme) → length ws < most → EndsExpr rest → IsCond names depth ws c rest → condition_at names most depth ws ≡ Some (c, rest)
cond_read names most depth ws c rest long ends (comparison {vs = vs} {x = x} {y = y} {s = s} {r = r} first by other compares) =
    let short = expr_shorter names depth ws x (symbol s ∷ vs) first in
    let a = is_read names most depth ws x (symbol s ∷ vs) long first (relation_ends s r vs by) in
    let b = is_read names most depth vs y rest (omega arith) other ends in
    plain_read names most depth ws rest c (expr_no_not names depth ws x (symbol s ∷ vs) first) (expr_no_has names depth ws x (symbol s ∷ vs) first)
    (comparison_read names most depth ws vs rest x y s r c a (relation_read s r by) (left_read r x y c compares) b (compared_read r x y c compares))
cond_read names most depth ws c rest long ends (a_has {depth = d} {p = p} {bytes = bytes} {sort = sort} {ws = vs} {k = k} part is) =
    let a = nested_is_read names most d vs (a_text k) (symbol symbols.CloseParen ∷ rest) (omega arith) is (record { no_sign = refl; no_index = refl }) in
    has_is_read names most (suc d) (symbol symbols.OpenParen ∷ identifier bytes ∷ symbol symbols.Comma ∷ vs) rest (has p k)
    (has_read names most d p part.kind sort bytes vs rest k part.found part.fits a)
cond_read names most depth ws c rest long ends (a_not {depth = d} {ws = vs} {c = b} is) =
    not_is_read names most d vs rest b (cond_read names most d vs b rest (omega arith) ends is)

-- a condition along equations
cond_as : (names : Names) (depth left : ℕ) (ws vs : List Lexeme) (c d : Condition) (rest : List Lexeme) → IsCond names left vs d rest → depth ≡ left → ws ≡ vs → d ≡ c → IsCond names depth ws c rest
cond_as names depth left ws vs c d rest is same_depth same_text same_cond = rw (same_depth, same_text, sym same_cond) is

comparison_found : (names : Names) (most depth : ℕ) (ws : List Lexeme) (c : Condition) (rest : List Lexeme) → comparison_in (expr_at names most depth) ws ≡ Some (c, rest) → IsCond names depth ws c rest
unfolding comparison_in
comparison_found names most depth ws c rest h =
    let a = bind_some (expr_at names most depth ws) _ (c, rest) h in
    let r = bind_some (relation_at a.0.1) _ (c, rest) a.2 in
    let x = bind_some (left_of r.0.0 a.0.0) _ (c, rest) r.2 in
    let b = bind_some (expr_at names most depth r.0.1) _ (c, rest) x.2 in
    let d = bind_some (compared r.0.0 x.0 b.0.0) _ (c, rest) b.2 in
    let k = read_is (d.0, b.0.1) (c, rest) d.2 in
    let by = relation_found a.0.1 r.0 r.1 in
    let first = expr_as names depth ws a.0.0 x.0 a.0.1 (symbol by.by ∷ r.0.1) (expr_is_found names most depth ws a.0.0 a.0.1 a.1) (sym (left_found r.0.0 a.0.0 x.0 x.1)) by.stands in
    let other = expr_as names depth r.0.1 b.0.0 b.0.0 b.0.1 rest (expr_is_found names most depth r.0.1 b.0.0 b.0.1 b.1) refl k.1 in
    comparison first by.is other (compared_found r.0.0 x.0 b.0.0 c (d.1 ∙ ap Some k.0))

deep_is : (depth : ℕ) → 0 < depth → depth ≡ suc (depth - 1)
deep_is depth h = omega arith

has_found : (names : Names) (most depth : ℕ) (ws : List Lexeme) (c : Condition) (rest : List Lexeme) → has_in names (nested_at names most depth) depth ws ≡ Some (c, rest) → IsCond names depth (symbol symbols.Has ∷ ws) c rest
unfolding has_in
has_found names most depth ws c rest h =
    let a = bind_some (part_in names depth ws) _ (c, rest) h in
    let e = bind_some (table_sort a.0.1) _ (c, rest) a.2 in
    let o = bind_some (symbol_at symbols.Comma a.0.2) _ (c, rest) e.2 in
    let x = bind_some (nested_at names most depth o.0) _ (c, rest) o.2 in
    let k = bind_some (text_form x.0.0) _ (c, rest) x.2 in
    let r = bind_some (symbol_at symbols.CloseParen x.0.1) _ (c, rest) k.2 in
    let z = read_is (has a.0.0 k.0, r.0) (c, rest) r.2 in
    let f = part_found names depth ws a.0 a.1 in
    let closing : x.0.1 ≡ symbol symbols.CloseParen ∷ rest = symbol_found symbols.CloseParen x.0.1 r.0 r.1 ∙ ap (λ w. symbol symbols.CloseParen ∷ w) z.1 in
    let key = expr_as names (depth - 1) o.0 x.0.0 (a_text k.0) x.0.1 (symbol symbols.CloseParen ∷ rest) (nested_is_found names most depth o.0 x.0.0 x.0.1 x.1) (text_is x.0.0 k.0 k.1) closing in
    let part : IsPart names f.bytes table_sort a.0.0 e.0 = record { kind = a.0.1; found = f.found; fits = e.1 } in
    cond_as names depth (suc (depth - 1)) (symbol symbols.Has ∷ ws) (symbol symbols.Has ∷ symbol symbols.OpenParen ∷ identifier f.bytes ∷ symbol symbols.Comma ∷ o.0) c (has a.0.0 k.0) rest
    (a_has part key) (deep_is depth f.deep) (ap (λ w. symbol symbols.Has ∷ w) (f.stands ∙ ap (λ w. symbol symbols.OpenParen ∷ identifier f.bytes ∷ w) (symbol_found symbols.Comma a.0.2 o.0 o.1))) z.0

plain_found : (names : Names) (most depth : ℕ) (o : Option (List Lexeme)) (ws : List Lexeme) (c : Condition) (rest : List Lexeme) → symbol_at symbols.Has ws ≡ o → plain_condition_in names most depth ws o ≡ Some (c, rest) → IsCond names depth ws c rest
unfolding plain_condition_in
plain_found names most depth None ws c rest next h = comparison_found names most depth ws c rest h
plain_found names most depth (Some behind) ws c rest next h = rw (symbol_found symbols.Has ws behind next) (has_found names most depth behind c rest h)

-- what a reader finds one level deeper
abbrev DeeperFinds : Names → ℕ → Reader Condition → Type 0
DeeperFinds names depth deeper = (ws : List Lexeme) (c : Condition) (rest : List Lexeme) → deeper ws ≡ Some (c, rest) → (left : ℕ) × (depth ≡ suc left) × IsCond names left ws c rest

condition_found : (names : Names) (most depth : ℕ) (deeper : Reader Condition) → DeeperFinds names depth deeper → (o : Option (List Lexeme)) (ws : List Lexeme) (c : Condition) (rest : List Lexeme) → symbol_at symbols.Not ws ≡ o →
    condition_in names most deeper depth ws o ≡ Some (c, rest) → IsCond names depth ws c rest
unfolding condition_in not_in
condition_found names most depth deeper finds None ws c rest next h = plain_found names most depth (symbol_at symbols.Has ws) ws c rest refl h
condition_found names most depth deeper finds (Some behind) ws c rest next h =
    let a = bind_some (deeper behind) _ (c, rest) h in
    let z = read_is (is_not a.0.0, a.0.1) (c, rest) a.2 in
    let f = finds behind a.0.0 rest (a.1 ∙ ap (λ r. Some (a.0.0, r)) z.1) in
    cond_as names depth (suc f.0) ws (symbol symbols.Not ∷ behind) c (is_not a.0.0) rest (a_not f.2) f.1 (symbol_found symbols.Not ws behind next) z.0

deeper_found : (names : Names) (most depth : ℕ) → DeeperFinds names depth (deeper_condition names most depth)
unfolding deeper_condition
deeper_found names most zero ws c rest h = absurd cc
deeper_found names most (suc depth) ws c rest h =
    (depth, refl, condition_found names most depth (deeper_condition names most depth) (deeper_found names most depth) (symbol_at symbols.Not ws) ws c rest refl h)

-- what is read is a condition of the grammar
pub cond_found : (names : Names) (most depth : ℕ) (ws : List Lexeme) (c : Condition) (rest : List Lexeme) → condition_at names most depth ws ≡ Some (c, rest) → IsCond names depth ws c rest
cond_found names most depth ws c rest h = condition_found names most depth (deeper_condition names most depth) (deeper_found names most depth) (symbol_at symbols.Not ws) ws c rest refl h
