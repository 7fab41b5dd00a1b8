-- What is spelled so is read.
use Rattle.std.proofs.Common.{◌≡◌, ℕ, zero, suc, ◌-◌, ◌<◌, ◌≤◌, Bool, true, false, List, [], ◌∷◌, ◌++◌, length, Option, Some, None, refl, ap, ◌∙◌, append_assoc, arith}
use Rattle.std.proofs.lemmas.List.{length-append}
use Rattle.path_tree.specs.declared.token.Symbol.TheVariants.{OpenParen, CloseParen, OpenBracket, CloseBracket, Comma, First, Lookup, Count}
use Rattle.path_tree.specs.Lexeme.{Lexeme, symbol, number as number_lexeme, identifier, string}
use Rattle.path_tree.specs.Reading.{symbol_at}
use Rattle.path_tree.specs.Known.{value_of}
use Rattle.value_core.specs.declared.kind.Elem.{Elem}
use Rattle.value_core.specs.declared.kind.Kind.{Kind}
use Rattle.value_core.specs.Plain.{IsText}
use Rattle.decl_core.specs.Form.{element, oldest, under, Integers, number, count, Texts, literal, Form, an_integer, a_text}
use Rattle.token_read.specs.Reader.{Reader}
use Rattle.token_read.specs.Names.{Names, found_in, sign_at}
use Rattle.body_read.specs.Reading.{of_sort, value_named, combined, level_of, part_in, first_in, count_in, lookup_in, group_in, by_symbol_in, named_in, term_in, with_more, more_at, summed, expr_in, nested_at}
use Rattle.decl_core.specs.Sorts.{array_sort, queue_sort, table_sort}
use Rattle.body_read.specs.Grammar.{ExprText, terms, MoreText, no_more, and_more, TermText, a_number, a_string, a_name, an_element, a_first, a_lookup, a_count, in_parens, sign_symbol, expr_lexemes, more_lexemes, term_lexemes, IsExpr, AddsUp, IsTerm, EndsExpr}
use Rattle.body_read.proofs.Sums.{nested_step}
use Rattle.body_read.proofs.Literals.{literal_some}

no_index_sign : (plus : Bool) (ws : List Lexeme) → symbol_at OpenBracket (symbol (sign_symbol plus) ∷ ws) ≡ None
no_index_sign true ws = refl
no_index_sign false ws = refl

sign_again : (plus : Bool) (ws : List Lexeme) → sign_at (symbol (sign_symbol plus) ∷ ws) ≡ Some (plus, ws)
sign_again true ws = refl
sign_again false ws = refl

no_index_more : (m : MoreText) (rest : List Lexeme) → symbol_at OpenBracket rest ≡ None → symbol_at OpenBracket (more_lexemes m ++ rest) ≡ None
no_index_more no_more rest h = h
no_index_more (and_more plus t m) rest h = no_index_sign plus ((term_lexemes t ++ more_lexemes m) ++ rest)

more_step : (term : Reader Form) (left : ℕ) (sum : Integers) (ws : List Lexeme) → 0 < left → more_at term left sum ws ≡ with_more (more_at term (left - 1)) term sum ws (sign_at ws)
unfolding more_at
more_step term zero sum ws h = absurd (omega arith)
more_step term (suc left) sum ws h = let e : suc left - 1 ≡ left = omega arith in rw e refl

more_end : (term : Reader Form) (left : ℕ) (sum : Integers) (ws : List Lexeme) → 0 < left → sign_at ws ≡ None → more_at term left sum ws ≡ Some (sum, ws)
unfolding with_more
more_end term left sum ws lt h = more_step term left sum ws lt ∙ rw h refl

more_on : (term : Reader Form) (left : ℕ) (plus : Bool) (sum right : Integers) (ws behind after : List Lexeme) (total : Option (Integers × List Lexeme)) → 0 < left → sign_at ws ≡ Some (plus, behind) → term behind ≡ Some (an_integer right, after) →
    more_at term (left - 1) (combined plus sum right) after ≡ total → more_at term left sum ws ≡ total
unfolding with_more
more_on term left plus sum right ws behind after total lt op read others = more_step term left sum ws lt ∙ rw (op, read) others

one_term : (term : Reader Form) (most : ℕ) (ws rest : List Lexeme) (x : Form) → term ws ≡ Some (x, rest) → sign_at rest ≡ None → expr_in term most ws ≡ Some (x, rest)
unfolding expr_in summed
one_term term most ws rest x read ends = rw (read, ends) refl

some_terms : (term : Reader Form) (most : ℕ) (plus : Bool) (ws after behind rest : List Lexeme) (f y : Integers) → term ws ≡ Some (an_integer f, after) → sign_at after ≡ Some (plus, behind) → more_at term most f after ≡ Some (y, rest) →
    expr_in term most ws ≡ Some (an_integer y, rest)
unfolding expr_in summed
some_terms term most plus ws after behind rest f y read op others = rw (read, op, others) refl

level_again : (depth : ℕ) → 0 < depth → level_of depth ≡ Some (depth - 1)
level_again zero h = absurd (omega arith)
level_again (suc depth) h = let e : suc depth - 1 ≡ depth = omega arith in rw e refl

pub part_again : (names : Names) (depth p : ℕ) (kind : Kind) (bytes : List ℕ) (ws : List Lexeme) → 0 < depth → found_in names.parts bytes ≡ Some (p, kind) → part_in names depth (symbol OpenParen ∷ identifier bytes ∷ ws) ≡ Some (p, kind, ws)
unfolding part_in
part_again names depth p kind bytes ws deep found = rw (level_again depth deep, found) refl

name_read : (names : Names) (nested : Reader Form) (depth : ℕ) (bytes : List ℕ) (rest : List Lexeme) (x : Form) → symbol_at OpenBracket rest ≡ None → value_named names bytes (value_of names.constants bytes) ≡ Some x →
    term_in names nested depth (identifier bytes ∷ rest) ≡ Some (x, rest)
unfolding term_in named_in
name_read names nested depth bytes rest x ends found = rw (ends, found) refl

element_read : (names : Names) (nested : Reader Form) (depth p : ℕ) (kind : Kind) (s : Elem) (bytes : List ℕ) (ws rest : List Lexeme) (i : Integers) → found_in names.parts bytes ≡ Some (p, kind) → array_sort kind ≡ Some s →
    nested ws ≡ Some (an_integer i, symbol CloseBracket ∷ rest) → term_in names nested depth (identifier bytes ∷ symbol OpenBracket ∷ ws) ≡ Some (of_sort s (element p i), rest)
unfolding term_in named_in
element_read names nested depth p kind s bytes ws rest i found sort read = rw (found, sort, read) refl

string_read : (names : Names) (nested : Reader Form) (depth : ℕ) (bytes : List ℕ) (rest : List Lexeme) → IsText bytes → term_in names nested depth (string bytes ∷ rest) ≡ Some (a_text (literal bytes), rest)
unfolding term_in
string_read names nested depth bytes rest is = rw (literal_some bytes is) refl

number_read : (names : Names) (nested : Reader Form) (depth n : ℕ) (rest : List Lexeme) → term_in names nested depth (number_lexeme n ∷ rest) ≡ Some (an_integer (number n), rest)
unfolding term_in
number_read names nested depth n rest = refl

parens_read : (names : Names) (nested : Reader Form) (depth : ℕ) (ws rest : List Lexeme) (x : Form) → nested ws ≡ Some (x, symbol CloseParen ∷ rest) → term_in names nested depth (symbol OpenParen ∷ ws) ≡ Some (x, rest)
unfolding term_in by_symbol_in group_in
parens_read names nested depth ws rest x read = rw read refl

first_read : (names : Names) (nested : Reader Form) (depth p : ℕ) (kind : Kind) (s : Elem) (bytes : List ℕ) (rest : List Lexeme) → 0 < depth → found_in names.parts bytes ≡ Some (p, kind) → queue_sort kind ≡ Some s →
    term_in names nested depth (symbol First ∷ symbol OpenParen ∷ identifier bytes ∷ symbol CloseParen ∷ rest) ≡ Some (of_sort s (oldest p), rest)
unfolding term_in by_symbol_in first_in
first_read names nested depth p kind s bytes rest deep found sort = rw (part_again names depth p kind bytes (symbol CloseParen ∷ rest) deep found, sort) refl

count_read : (names : Names) (nested : Reader Form) (depth p : ℕ) (kind : Kind) (bytes : List ℕ) (rest : List Lexeme) → 0 < depth → found_in names.parts bytes ≡ Some (p, kind) →
    term_in names nested depth (symbol Count ∷ symbol OpenParen ∷ identifier bytes ∷ symbol CloseParen ∷ rest) ≡ Some (an_integer (count p), rest)
unfolding term_in by_symbol_in count_in
count_read names nested depth p kind bytes rest deep found = rw (part_again names depth p kind bytes (symbol CloseParen ∷ rest) deep found) refl

lookup_read : (names : Names) (nested : Reader Form) (depth p : ℕ) (kind : Kind) (s : Elem) (bytes : List ℕ) (ws rest : List Lexeme) (k : Texts) → 0 < depth → found_in names.parts bytes ≡ Some (p, kind) → table_sort kind ≡ Some s →
    nested ws ≡ Some (a_text k, symbol CloseParen ∷ rest) → term_in names nested depth (symbol Lookup ∷ symbol OpenParen ∷ identifier bytes ∷ symbol Comma ∷ ws) ≡ Some (of_sort s (under p k), rest)
unfolding term_in by_symbol_in lookup_in
lookup_read names nested depth p kind s bytes ws rest k deep found sort read = rw (part_again names depth p kind bytes (symbol Comma ∷ ws) deep found, sort, read) refl

-- an expression and a rest, along an equation
along : (f g : Form) (rest : List Lexeme) (read : Option (Form × List Lexeme)) → read ≡ Some (f, rest) → g ≡ f → read ≡ Some (g, rest)
along f g rest read h p = cc

along_sum : (f g : Integers) (rest : List Lexeme) (read : Option (Integers × List Lexeme)) → read ≡ Some (f, rest) → g ≡ f → read ≡ Some (g, rest)
along_sum f g rest read h p = cc

mutual
  pub expr_again : (names : Names) (most depth : ℕ) (e : ExprText) (rest : List Lexeme) (x : Form) → IsExpr names depth e x → length (expr_lexemes e) < most → EndsExpr rest →
      expr_in (term_in names (nested_at names most depth) depth) most (expr_lexemes e ++ rest) ≡ Some (x, rest)
  expr_again names most depth (terms t no_more) rest x is short ends =
      let lengths = length-append (term_lexemes t) [] in
      let first = term_again names most depth t rest x is (omega arith) ends.no_index in
      ap (expr_in (term_in names (nested_at names most depth) depth) most) (append_assoc (term_lexemes t) [] rest)
      ∙ one_term (term_in names (nested_at names most depth) depth) most (term_lexemes t ++ rest) rest x first ends.no_sign
  expr_again names most depth (terms t (and_more plus u m)) rest x is short ends =
      let lengths = length-append (term_lexemes t) (more_lexemes (and_more plus u m)) in
      let first = term_again names most depth t (more_lexemes (and_more plus u m) ++ rest) (an_integer is.0) is.2 (omega arith) (no_index_more (and_more plus u m) rest ends.no_index) in
      let others = more_again names most depth most (and_more plus u m) rest is.0 is.1 is.3 (omega arith) (omega arith) ends in
      ap (expr_in (term_in names (nested_at names most depth) depth) most) (append_assoc (term_lexemes t) (more_lexemes (and_more plus u m)) rest)
      ∙ along (an_integer is.1) x rest _ (some_terms (term_in names (nested_at names most depth) depth) most plus (term_lexemes t ++ (more_lexemes (and_more plus u m) ++ rest)) (more_lexemes (and_more plus u m) ++ rest) ((term_lexemes u ++ more_lexemes m) ++ rest) rest is.0 is.1 first (sign_again plus ((term_lexemes u ++ more_lexemes m) ++ rest)) others) is.4

  pub more_again : (names : Names) (most depth left : ℕ) (m : MoreText) (rest : List Lexeme) (sum y : Integers) → AddsUp names depth m sum y → length (more_lexemes m) < left → left ≤ most → EndsExpr rest →
      more_at (term_in names (nested_at names most depth) depth) left sum (more_lexemes m ++ rest) ≡ Some (y, rest)
  more_again names most depth left no_more rest sum y is short within ends =
      along_sum sum y rest _ (more_end (term_in names (nested_at names most depth) depth) left sum rest (omega arith) ends.no_sign) is
  more_again names most depth left (and_more plus t m) rest sum y is short within ends =
      let lengths = length-append (term_lexemes t) (more_lexemes m) in
      let read = term_again names most depth t (more_lexemes m ++ rest) (an_integer is.0) is.1 (omega arith) (no_index_more m rest ends.no_index) in
      let others = more_again names most depth (left - 1) m rest (combined plus sum is.0) y is.2 (omega arith) (omega arith) ends in
      more_on (term_in names (nested_at names most depth) depth) left plus sum is.0 (symbol (sign_symbol plus) ∷ ((term_lexemes t ++ more_lexemes m) ++ rest)) (term_lexemes t ++ (more_lexemes m ++ rest)) (more_lexemes m ++ rest) (Some (y, rest)) (omega arith)
      (sign_again plus ((term_lexemes t ++ more_lexemes m) ++ rest) ∙ ap (λ w. Some (plus, w)) (append_assoc (term_lexemes t) (more_lexemes m) rest)) read others

  pub term_again : (names : Names) (most depth : ℕ) (t : TermText) (rest : List Lexeme) (x : Form) → IsTerm names depth t x → length (term_lexemes t) < most → symbol_at OpenBracket rest ≡ None →
      term_in names (nested_at names most depth) depth (term_lexemes t ++ rest) ≡ Some (x, rest)
  term_again names most depth (a_number n) rest x is short ends = along (an_integer (number n)) x rest _ (number_read names (nested_at names most depth) depth n rest) is
  term_again names most depth (a_string bytes) rest x is short ends = along (a_text (literal bytes)) x rest _ (string_read names (nested_at names most depth) depth bytes rest is.0) is.1
  term_again names most depth (a_name bytes) rest x is short ends = name_read names (nested_at names most depth) depth bytes rest x ends is
  term_again names most depth (an_element bytes e) rest x is short ends =
      let lengths = length-append (expr_lexemes e) (symbol CloseBracket ∷ []) in
      let inside = expr_again names most (depth - 1) e (symbol CloseBracket ∷ rest) (an_integer is.2) is.5 (omega arith) (record { no_sign = refl; no_index = refl }) in
      let read = nested_step names most depth (expr_lexemes e ++ (symbol CloseBracket ∷ rest)) is.4 ∙ inside in
      ap (λ w. term_in names (nested_at names most depth) depth (identifier bytes ∷ symbol OpenBracket ∷ w)) (append_assoc (expr_lexemes e) (symbol CloseBracket ∷ []) rest)
      ∙ along (of_sort is.1 (element is.0 is.2)) x rest _ (element_read names (nested_at names most depth) depth is.0 is.3.kind is.1 bytes (expr_lexemes e ++ (symbol CloseBracket ∷ rest)) rest is.2 is.3.found is.3.fits read) is.6
  term_again names most depth (a_first bytes) rest x is short ends =
      along (of_sort is.1 (oldest is.0)) x rest _ (first_read names (nested_at names most depth) depth is.0 is.2.kind is.1 bytes rest is.3 is.2.found is.2.fits) is.4
  term_again names most depth (a_count bytes) rest x is short ends =
      along (an_integer (count is.0)) x rest _ (count_read names (nested_at names most depth) depth is.0 is.1 bytes rest is.3 is.2) is.4
  term_again names most depth (a_lookup bytes e) rest x is short ends =
      let lengths = length-append (expr_lexemes e) (symbol CloseParen ∷ []) in
      let inside = expr_again names most (depth - 1) e (symbol CloseParen ∷ rest) (a_text is.2) is.5 (omega arith) (record { no_sign = refl; no_index = refl }) in
      let read = nested_step names most depth (expr_lexemes e ++ (symbol CloseParen ∷ rest)) is.4 ∙ inside in
      ap (λ w. term_in names (nested_at names most depth) depth (symbol Lookup ∷ symbol OpenParen ∷ identifier bytes ∷ symbol Comma ∷ w)) (append_assoc (expr_lexemes e) (symbol CloseParen ∷ []) rest)
      ∙ along (of_sort is.1 (under is.0 is.2)) x rest _ (lookup_read names (nested_at names most depth) depth is.0 is.3.kind is.1 bytes (expr_lexemes e ++ (symbol CloseParen ∷ rest)) rest is.2 is.4 is.3.found is.3.fits read) is.6
  term_again names most depth (in_parens e) rest x is short ends =
      let lengths = length-append (expr_lexemes e) (symbol CloseParen ∷ []) in
      let inside = expr_again names most (depth - 1) e (symbol CloseParen ∷ rest) x is.1 (omega arith) (record { no_sign = refl; no_index = refl }) in
      let read = nested_step names most depth (expr_lexemes e ++ (symbol CloseParen ∷ rest)) is.0 ∙ inside in
      ap (λ w. term_in names (nested_at names most depth) depth (symbol OpenParen ∷ w)) (append_assoc (expr_lexemes e) (symbol CloseParen ∷ []) rest)
      ∙ parens_read names (nested_at names most depth) depth (expr_lexemes e ++ (symbol CloseParen ∷ rest)) rest x read
