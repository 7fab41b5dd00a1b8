-- Statements of the grammar are read whole.
use Rattle.std.proofs.Common.{◌≡◌, ℕ, zero, suc, ◌<◌, ◌≤◌, true, List, ◌∷◌, length, bytes_eq, Some, None, refl, ap, arith}
use Rattle.std.proofs.lemmas.Slice.Eq.{bytes_eq-Decides}
use Rattle.path_tree.specs.declared.token.Symbol.TheVariants as symbols
use Rattle.path_tree.specs.Lexeme.{Lexeme, symbol, identifier, string}
use Rattle.path_tree.specs.Reading.{symbol_at}
use Rattle.value_core.specs.declared.kind.Elem.{Elem}
use Rattle.value_core.specs.declared.kind.Elem.TheVariants as elem
use Rattle.value_core.specs.declared.kind.Kind.{Kind}
use Rattle.decl_core.specs.Form.{Integers, Texts, Form, an_integer, a_text, Condition, Statement, block, set_element, set_result, append, take, store, erase, choose, refuse, Statements, nothing, first_and}
use Rattle.token_read.specs.Reader.{Reader}
use Rattle.token_read.specs.Names.{Names, found_in}
use Rattle.body_read.specs.Reading.{nested_at}
use Rattle.decl_core.specs.Sorts.{array_sort, queue_sort, table_sort}
use Rattle.body_read.specs.Grammar.{EndsExpr}
use Rattle.decl_core.specs.Sorts.{sort_of_form}
use Rattle.body_read.specs.Statements.{IsStmt, no_statement, a_block, an_element, a_result, an_append, a_take, a_store, an_erase, an_if, an_if_else, a_refuse, IsStmts, last, and_more}
use Rattle.body_read.specs.StatementReading.{expr_at, condition_at, sorted, result_sort, element_in, result_in, assigned_in, append_in, take_in, store_in, erase_in, word_of_refusal, refuse_in, other_in, if_in, and_then, statements_by, statements_at, block_in, statement_by_symbol, statement_in, inner_at, body_in}
use Rattle.body_read.proofs.Again.{part_again}
use Rattle.body_read.proofs.Found.{is_read}
use Rattle.body_read.proofs.Refusals.{word_some}
use Rattle.body_read.proofs.Conditions.{expr_shorter, nested_is_read, cond_shorter, cond_read}

-- what may stand behind a statement
pub data EndsStatement : List Lexeme → Type 0 where
  at_semicolon : {ws : List Lexeme} → EndsStatement (symbol symbols.Semicolon ∷ ws)
  at_end : {ws : List Lexeme} → EndsStatement (symbol symbols.End ∷ ws)
  at_else : {ws : List Lexeme} → EndsStatement (symbol symbols.Else ∷ ws)

ends_expr : (rest : List Lexeme) → EndsStatement rest → EndsExpr rest
ends_expr rest at_semicolon = record { no_sign = refl; no_index = refl }
ends_expr rest at_end = record { no_sign = refl; no_index = refl }
ends_expr rest at_else = record { no_sign = refl; no_index = refl }

empty_read : (names : Names) (most depth : ℕ) (inner : Reader Statement) (rest : List Lexeme) → EndsStatement rest → statement_in names most inner depth rest ≡ Some (block nothing, rest)
unfolding statement_in statement_by_symbol
empty_read names most depth inner rest at_semicolon = refl
empty_read names most depth inner rest at_end = refl
empty_read names most depth inner rest at_else = refl

sorted_again : (sort : Elem) (x : Form) → sort_of_form x ≡ sort → sorted sort x ≡ Some x
sorted_again elem.Integer (an_integer e) h = refl
sorted_again elem.Integer (a_text e) h = absurd cc
sorted_again elem.Text (an_integer e) h = absurd cc
sorted_again elem.Text (a_text e) h = refl

bytes_same : (bytes : List ℕ) → bytes_eq bytes bytes ≡ true
bytes_same bytes = (bytes_eq-Decides bytes bytes).1 refl

result_again : (names : Names) (bytes : List ℕ) (sort : Elem) → names.function ≡ Some (bytes, sort) → result_sort names.function bytes ≡ Some sort
result_again names bytes sort h = rw (h, bytes_same bytes) refl

element_read : (names : Names) (most depth p : ℕ) (inner : Reader Statement) (kind : Kind) (sort : Elem) (bytes : List ℕ) (ws vs rest : List Lexeme) (i : Integers) (x : Form) → found_in names.parts bytes ≡ Some (p, kind) → array_sort kind ≡ Some sort →
    nested_at names most 32 ws ≡ Some (an_integer i, symbol symbols.CloseBracket ∷ symbol symbols.Assign ∷ vs) → expr_at names most 32 vs ≡ Some (x, rest) → sorted sort x ≡ Some x →
    statement_in names most inner depth (identifier bytes ∷ symbol symbols.OpenBracket ∷ ws) ≡ Some (set_element p i x, rest)
unfolding statement_in assigned_in element_in
element_read names most depth p inner kind sort bytes ws vs rest i x found fits index value same = rw (found, fits, index, value, same) refl

result_read : (names : Names) (most depth : ℕ) (inner : Reader Statement) (sort : Elem) (bytes : List ℕ) (ws rest : List Lexeme) (x : Form) → result_sort names.function bytes ≡ Some sort → expr_at names most 32 ws ≡ Some (x, rest) → sorted sort x ≡ Some x →
    statement_in names most inner depth (identifier bytes ∷ symbol symbols.Assign ∷ ws) ≡ Some (set_result x, rest)
unfolding statement_in assigned_in result_in
result_read names most depth inner sort bytes ws rest x own value same = rw (own, value, same) refl

append_read : (names : Names) (most depth p : ℕ) (inner : Reader Statement) (kind : Kind) (sort : Elem) (bytes : List ℕ) (ws rest : List Lexeme) (x : Form) → found_in names.parts bytes ≡ Some (p, kind) → queue_sort kind ≡ Some sort →
    nested_at names most 32 ws ≡ Some (x, symbol symbols.CloseParen ∷ rest) → sorted sort x ≡ Some x →
    statement_in names most inner depth (symbol symbols.Append ∷ symbol symbols.OpenParen ∷ identifier bytes ∷ symbol symbols.Comma ∷ ws) ≡ Some (append p x, rest)
unfolding statement_in statement_by_symbol append_in
append_read names most depth p inner kind sort bytes ws rest x found fits value same = rw (part_again names 32 p kind bytes (symbol symbols.Comma ∷ ws) (omega arith) found, fits, value, same) refl

take_read : (names : Names) (most depth p : ℕ) (inner : Reader Statement) (kind : Kind) (sort : Elem) (bytes : List ℕ) (rest : List Lexeme) → found_in names.parts bytes ≡ Some (p, kind) → queue_sort kind ≡ Some sort →
    statement_in names most inner depth (symbol symbols.Take ∷ symbol symbols.OpenParen ∷ identifier bytes ∷ symbol symbols.CloseParen ∷ rest) ≡ Some (take p, rest)
unfolding statement_in statement_by_symbol take_in
take_read names most depth p inner kind sort bytes rest found fits = rw (part_again names 32 p kind bytes (symbol symbols.CloseParen ∷ rest) (omega arith) found, fits) refl

store_read : (names : Names) (most depth p : ℕ) (inner : Reader Statement) (kind : Kind) (sort : Elem) (bytes : List ℕ) (ws vs rest : List Lexeme) (k : Texts) (x : Form) → found_in names.parts bytes ≡ Some (p, kind) → table_sort kind ≡ Some sort →
    nested_at names most 32 ws ≡ Some (a_text k, symbol symbols.Comma ∷ vs) → nested_at names most 32 vs ≡ Some (x, symbol symbols.CloseParen ∷ rest) → sorted sort x ≡ Some x →
    statement_in names most inner depth (symbol symbols.Store ∷ symbol symbols.OpenParen ∷ identifier bytes ∷ symbol symbols.Comma ∷ ws) ≡ Some (store p k x, rest)
unfolding statement_in statement_by_symbol store_in
store_read names most depth p inner kind sort bytes ws vs rest k x found fits key value same = rw (part_again names 32 p kind bytes (symbol symbols.Comma ∷ ws) (omega arith) found, fits, key, value, same) refl

erase_read : (names : Names) (most depth p : ℕ) (inner : Reader Statement) (kind : Kind) (sort : Elem) (bytes : List ℕ) (ws rest : List Lexeme) (k : Texts) → found_in names.parts bytes ≡ Some (p, kind) → table_sort kind ≡ Some sort →
    nested_at names most 32 ws ≡ Some (a_text k, symbol symbols.CloseParen ∷ rest) →
    statement_in names most inner depth (symbol symbols.Erase ∷ symbol symbols.OpenParen ∷ identifier bytes ∷ symbol symbols.Comma ∷ ws) ≡ Some (erase p k, rest)
unfolding statement_in statement_by_symbol erase_in
erase_read names most depth p inner kind sort bytes ws rest k found fits key = rw (part_again names 32 p kind bytes (symbol symbols.Comma ∷ ws) (omega arith) found, fits, key) refl

refuse_read : (names : Names) (most depth : ℕ) (inner : Reader Statement) (word : List ℕ) (rest : List Lexeme) → word_of_refusal word ≡ Some word →
    statement_in names most inner depth (symbol symbols.Refuse ∷ symbol symbols.OpenParen ∷ string word ∷ symbol symbols.CloseParen ∷ rest) ≡ Some (refuse word, rest)
unfolding statement_in statement_by_symbol refuse_in
refuse_read names most depth inner word rest is = rw is refl

block_read : (names : Names) (most depth : ℕ) (inner : Reader Statement) (ws rest : List Lexeme) (all : Statements) → statements_at inner most nothing ws ≡ Some (all, rest) → statement_in names most inner (suc depth) (symbol symbols.Begin ∷ ws) ≡ Some (block all, rest)
unfolding statement_in statement_by_symbol block_in
block_read names most depth inner ws rest all read = rw read refl

if_read : (names : Names) (most depth : ℕ) (inner : Reader Statement) (ws vs rest : List Lexeme) (c : Condition) (s : Statement) → condition_at names most 32 ws ≡ Some (c, symbol symbols.Then ∷ vs) → inner vs ≡ Some (s, rest) → symbol_at symbols.Else rest ≡ None →
    statement_in names most inner (suc depth) (symbol symbols.If ∷ ws) ≡ Some (choose c s (block nothing), rest)
unfolding statement_in statement_by_symbol if_in other_in
if_read names most depth inner ws vs rest c s test first none = rw (test, first, none) refl

if_else_read : (names : Names) (most depth : ℕ) (inner : Reader Statement) (ws vs us rest : List Lexeme) (c : Condition) (s t : Statement) → condition_at names most 32 ws ≡ Some (c, symbol symbols.Then ∷ vs) →
    inner vs ≡ Some (s, symbol symbols.Else ∷ us) → inner us ≡ Some (t, rest) → statement_in names most inner (suc depth) (symbol symbols.If ∷ ws) ≡ Some (choose c s t, rest)
unfolding statement_in statement_by_symbol if_in other_in
if_else_read names most depth inner ws vs us rest c s t test first other = rw (test, first, other) refl

-- a statement is not longer than what it stands before
mutual
  pub stmt_shorter : (names : Names) (depth : ℕ) (ws : List Lexeme) (s : Statement) (rest : List Lexeme) → IsStmt names depth ws s rest → length rest ≤ length ws
  stmt_shorter names depth ws s rest no_statement = omega arith
  stmt_shorter names depth ws s rest (a_block {depth = d} {ws = vs} {all = all} is) =
      let a = stmts_shorter names d vs all rest is in
      omega arith
  stmt_shorter names depth ws s rest (an_element {ws = us} {vs = vs} {i = i} {x = x} part index value same) =
      let a = expr_shorter names 31 us (an_integer i) (symbol symbols.CloseBracket ∷ symbol symbols.Assign ∷ vs) index in
      let b = expr_shorter names 32 vs x rest value in
      omega arith
  stmt_shorter names depth ws s rest (a_result {ws = vs} {x = x} own value same) =
      let a = expr_shorter names 32 vs x rest value in
      omega arith
  stmt_shorter names depth ws s rest (an_append {ws = vs} {x = x} part value same) =
      let a = expr_shorter names 31 vs x (symbol symbols.CloseParen ∷ rest) value in
      omega arith
  stmt_shorter names depth ws s rest (a_take part) = omega arith
  stmt_shorter names depth ws s rest (a_store {ws = us} {vs = vs} {k = k} {x = x} part key value same) =
      let a = expr_shorter names 31 us (a_text k) (symbol symbols.Comma ∷ vs) key in
      let b = expr_shorter names 31 vs x (symbol symbols.CloseParen ∷ rest) value in
      omega arith
  stmt_shorter names depth ws s rest (an_erase {ws = us} {k = k} part key) =
      let a = expr_shorter names 31 us (a_text k) (symbol symbols.CloseParen ∷ rest) key in
      omega arith
  stmt_shorter names depth ws s rest (an_if {depth = d} {ws = us} {vs = vs} {c = c} {s = t} test first none) =
      let a = cond_shorter names 32 us c (symbol symbols.Then ∷ vs) test in
      let b = stmt_shorter names d vs t rest first in
      omega arith
  stmt_shorter names depth ws s rest (an_if_else {depth = d} {ws = us} {vs = vs} {us = ts} {c = c} {s = t} {t = u} test first other) =
      let a = cond_shorter names 32 us c (symbol symbols.Then ∷ vs) test in
      let b = stmt_shorter names d vs t (symbol symbols.Else ∷ ts) first in
      let e = stmt_shorter names d ts u rest other in
      omega arith
  stmt_shorter names depth ws s rest (a_refuse is) = omega arith

  pub stmts_shorter : (names : Names) (depth : ℕ) (ws : List Lexeme) (all : Statements) (rest : List Lexeme) → IsStmts names depth ws all rest → length rest ≤ length ws
  stmts_shorter names depth ws all rest (last {s = s} is) =
      let a = stmt_shorter names depth ws s (symbol symbols.End ∷ rest) is in
      omega arith
  stmts_shorter names depth ws all rest (and_more {vs = vs} {s = s} {all = others} is more) =
      let a = stmt_shorter names depth ws s (symbol symbols.Semicolon ∷ vs) is in
      let b = stmts_shorter names depth vs others rest more in
      omega arith

-- statements behind others
abbrev pub joined : Statements → Statements → Statements
joined nothing all = all
joined (first_and s rest) all = first_and s (joined rest all)

pub joined_last : (done : Statements) (s : Statement) → and_then done s ≡ joined done (first_and s nothing)
joined_last nothing s = refl
joined_last (first_and t rest) s = ap (first_and t) (joined_last rest s)

pub joined_more : (done : Statements) (s : Statement) (all : Statements) → joined (and_then done s) all ≡ joined done (first_and s all)
joined_more nothing s all = refl
joined_more (first_and t rest) s all = ap (first_and t) (joined_more rest s all)

inner_read : (names : Names) (most depth : ℕ) (ws rest : List Lexeme) (s : Statement) → statement_in names most (inner_at names most depth) depth ws ≡ Some (s, rest) → inner_at names most (suc depth) ws ≡ Some (s, rest)
unfolding inner_at
inner_read names most depth ws rest s read = read

last_read : (inner : Reader Statement) (left : ℕ) (done : Statements) (ws rest : List Lexeme) (s : Statement) → inner ws ≡ Some (s, symbol symbols.End ∷ rest) → statements_at inner (suc left) done ws ≡ Some (joined done (first_and s nothing), rest)
unfolding statements_at statements_by
last_read inner left done ws rest s read = rw (read, joined_last done s) refl

next_read : (inner : Reader Statement) (left : ℕ) (done : Statements) (ws vs rest : List Lexeme) (s : Statement) (all : Statements) → inner ws ≡ Some (s, symbol symbols.Semicolon ∷ vs) →
    statements_at inner left (and_then done s) vs ≡ Some (joined (and_then done s) all, rest) → statements_at inner (suc left) done ws ≡ Some (joined done (first_and s all), rest)
unfolding statements_at statements_by
next_read inner left done ws vs rest s all read others = rw (read, others, joined_more done s all) refl

mutual
  pub stmt_read : (names : Names) (most depth : ℕ) (ws : List Lexeme) (s : Statement) (rest : List Lexeme) → length ws < most → EndsStatement rest → IsStmt names depth ws s rest →
      statement_in names most (inner_at names most depth) depth ws ≡ Some (s, rest)
  stmt_read names most depth ws s rest long ends no_statement = empty_read names most depth (inner_at names most depth) rest ends
  stmt_read names most depth ws s rest long ends (a_block {depth = d} {ws = vs} {all = all} is) =
      block_read names most d (inner_at names most (suc d)) vs rest all (stmts_read names most d most nothing vs all rest (omega arith) (omega arith) is)
  stmt_read names most depth ws s rest long ends (an_element {p = p} {bytes = bytes} {sort = sort} {ws = us} {vs = vs} {i = i} {x = x} part index value same) =
      let short = expr_shorter names 31 us (an_integer i) (symbol symbols.CloseBracket ∷ symbol symbols.Assign ∷ vs) index in
      let a = nested_is_read names most 31 us (an_integer i) (symbol symbols.CloseBracket ∷ symbol symbols.Assign ∷ vs) (omega arith) index (record { no_sign = refl; no_index = refl }) in
      let b = is_read names most 32 vs x rest (omega arith) value (ends_expr rest ends) in
      element_read names most depth p (inner_at names most depth) part.kind sort bytes us vs rest i x part.found part.fits a b (sorted_again sort x same)
  stmt_read names most depth ws s rest long ends (a_result {bytes = bytes} {sort = sort} {ws = vs} {x = x} own value same) =
      let a = is_read names most 32 vs x rest (omega arith) value (ends_expr rest ends) in
      result_read names most depth (inner_at names most depth) sort bytes vs rest x (result_again names bytes sort own) a (sorted_again sort x same)
  stmt_read names most depth ws s rest long ends (an_append {p = p} {bytes = bytes} {sort = sort} {ws = vs} {x = x} part value same) =
      let a = nested_is_read names most 31 vs x (symbol symbols.CloseParen ∷ rest) (omega arith) value (record { no_sign = refl; no_index = refl }) in
      append_read names most depth p (inner_at names most depth) part.kind sort bytes vs rest x part.found part.fits a (sorted_again sort x same)
  stmt_read names most depth ws s rest long ends (a_take {p = p} {bytes = bytes} {sort = sort} part) =
      take_read names most depth p (inner_at names most depth) part.kind sort bytes rest part.found part.fits
  stmt_read names most depth ws s rest long ends (a_store {p = p} {bytes = bytes} {sort = sort} {ws = us} {vs = vs} {k = k} {x = x} part key value same) =
      let short = expr_shorter names 31 us (a_text k) (symbol symbols.Comma ∷ vs) key in
      let a = nested_is_read names most 31 us (a_text k) (symbol symbols.Comma ∷ vs) (omega arith) key (record { no_sign = refl; no_index = refl }) in
      let b = nested_is_read names most 31 vs x (symbol symbols.CloseParen ∷ rest) (omega arith) value (record { no_sign = refl; no_index = refl }) in
      store_read names most depth p (inner_at names most depth) part.kind sort bytes us vs rest k x part.found part.fits a b (sorted_again sort x same)
  stmt_read names most depth ws s rest long ends (an_erase {p = p} {bytes = bytes} {sort = sort} {ws = us} {k = k} part key) =
      let a = nested_is_read names most 31 us (a_text k) (symbol symbols.CloseParen ∷ rest) (omega arith) key (record { no_sign = refl; no_index = refl }) in
      erase_read names most depth p (inner_at names most depth) part.kind sort bytes us rest k part.found part.fits a
  stmt_read names most depth ws s rest long ends (an_if {depth = d} {ws = us} {vs = vs} {c = c} {s = t} test first none) =
      let short = cond_shorter names 32 us c (symbol symbols.Then ∷ vs) test in
      let a = cond_read names most 32 us c (symbol symbols.Then ∷ vs) (omega arith) (record { no_sign = refl; no_index = refl }) test in
      let b = inner_read names most d vs rest t (stmt_read names most d vs t rest (omega arith) ends first) in
      if_read names most d (inner_at names most (suc d)) us vs rest c t a b none
  stmt_read names most depth ws s rest long ends (an_if_else {depth = d} {ws = us} {vs = vs} {us = ts} {c = c} {s = t} {t = u} test first other) =
      let short = cond_shorter names 32 us c (symbol symbols.Then ∷ vs) test in
      let shorter = stmt_shorter names d vs t (symbol symbols.Else ∷ ts) first in
      let a = cond_read names most 32 us c (symbol symbols.Then ∷ vs) (omega arith) (record { no_sign = refl; no_index = refl }) test in
      let b = inner_read names most d vs (symbol symbols.Else ∷ ts) t (stmt_read names most d vs t (symbol symbols.Else ∷ ts) (omega arith) at_else first) in
      let e = inner_read names most d ts rest u (stmt_read names most d ts u rest (omega arith) ends other) in
      if_else_read names most d (inner_at names most (suc d)) us vs ts rest c t u a b e
  stmt_read names most depth ws s rest long ends (a_refuse {word = word} is) = refuse_read names most depth (inner_at names most depth) word rest (word_some word is)

  pub stmts_read : (names : Names) (most depth left : ℕ) (done : Statements) (ws : List Lexeme) (all : Statements) (rest : List Lexeme) → length ws < left → left ≤ most → IsStmts names depth ws all rest →
      statements_at (inner_at names most (suc depth)) left done ws ≡ Some (joined done all, rest)
  stmts_read names most depth zero done ws all rest long within is = absurd (omega arith)
  stmts_read names most depth (suc left) done ws all rest long within (last {s = s} is) =
      let a = inner_read names most depth ws (symbol symbols.End ∷ rest) s (stmt_read names most depth ws s (symbol symbols.End ∷ rest) (omega arith) at_end is) in
      last_read (inner_at names most (suc depth)) left done ws rest s a
  stmts_read names most depth (suc left) done ws all rest long within (and_more {vs = vs} {s = s} {all = others} is more) =
      let short = stmt_shorter names depth ws s (symbol symbols.Semicolon ∷ vs) is in
      let a = inner_read names most depth ws (symbol symbols.Semicolon ∷ vs) s (stmt_read names most depth ws s (symbol symbols.Semicolon ∷ vs) (omega arith) at_semicolon is) in
      let b = stmts_read names most depth left (and_then done s) vs others rest (omega arith) (omega arith) more in
      next_read (inner_at names most (suc depth)) left done ws vs rest s others a b

-- the statements of a body are read whole
pub body_read : (names : Names) (most : ℕ) (ws : List Lexeme) (all : Statements) (rest : List Lexeme) → length ws < most → IsStmts names 31 ws all rest → body_in names most ws ≡ Some (all, rest)
unfolding body_in
body_read names most ws all rest long is = stmts_read names most 31 most nothing ws all rest long (omega arith) is
