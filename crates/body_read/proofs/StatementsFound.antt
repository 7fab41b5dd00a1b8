-- What is read as statements are statements of the grammar, and so a body is read exactly.
use Rattle.std.proofs.Common.{◌≡◌, ℕ, zero, suc, Bool, true, false, cond, List, [], ◌∷◌, bytes_eq, Option, Some, None, refl, sym, ap, ◌∙◌}
use Rattle.std.proofs.lemmas.Slice.Eq.{bytes_eq-Decides}
use Rattle.path_tree.specs.declared.token.Symbol.{Symbol}
use Rattle.path_tree.specs.declared.token.Symbol.TheVariants as symbols
use Rattle.path_tree.specs.Lexeme.{Lexeme, symbol, number as number_lexeme, identifier, string, end_mark, same_symbol}
use Rattle.path_tree.specs.Reading.{symbol_at}
use Rattle.path_tree.proofs.Found.{symbol_found}
use Rattle.path_tree.proofs.SymbolNumbers.{symbols_same}
use Rattle.value_core.specs.declared.kind.Elem.{Elem}
use Rattle.value_core.specs.declared.kind.Elem.TheVariants as elem
use Rattle.decl_core.specs.Form.{Form, an_integer, a_text, Condition, Statement, block, set_element, set_result, append, take, store, erase, choose, refuse, Statements, nothing, first_and}
use Rattle.token_read.specs.Reader.{Reader}
use Rattle.token_read.specs.Names.{Names, found_in}
use Rattle.body_read.specs.Reading.{integer_form, text_form, level_of, part_in, nested_at}
use Rattle.decl_core.specs.Sorts.{array_sort, queue_sort, table_sort}
use Rattle.body_read.specs.Grammar.{IsPart}
use Rattle.decl_core.specs.Sorts.{sort_of_form}
use Rattle.body_read.specs.Statements.{IsCond, IsStmt, no_statement, a_block, an_element, a_result, an_append, a_take, a_store, an_erase, an_if, an_if_else, a_refuse, IsStmts, last, and_more}
use Rattle.body_read.specs.StatementReading.{expr_at, condition_at, sorted, result_sort, element_in, result_in, assigned_in, append_in, take_in, store_in, erase_in, word_of_refusal, string_at, refuse_in, other_in, if_in, and_then, statements_by, statements_at, block_in, statement_by_symbol, statement_in, inner_at, body_in}
use Rattle.body_read.proofs.Found.{part_found, integer_is, text_is}
use Rattle.body_read.proofs.Refusals.{word_found}
use Rattle.body_read.proofs.Conditions.{expr_is_found, nested_is_found, expr_as, cond_found}
use Rattle.body_read.proofs.StatementsRead.{joined, joined_last, joined_more, stmts_shorter, body_read}
use Rattle.token_read.proofs.Exact.{Exact, bind_some, read_is}

sorted_is : (sort : Elem) (x y : Form) → sorted sort x ≡ Some y → (x ≡ y) × (sort_of_form y ≡ sort)
sorted_is elem.Integer (an_integer e) y h = let k : y ≡ an_integer e = cc in (sym k, ap sort_of_form k)
sorted_is elem.Integer (a_text e) y h = absurd cc
sorted_is elem.Text (an_integer e) y h = absurd cc
sorted_is elem.Text (a_text e) y h = let k : y ≡ a_text e = cc in (sym k, ap sort_of_form k)

own_chosen : (b : Bool) (f : List ℕ × Elem) (bytes : List ℕ) (sort : Elem) → (b ≡ true → f.0 ≡ bytes) → cond {A = Option Elem} b (Some f.1) None ≡ Some sort → Some f ≡ Some (bytes, sort)
own_chosen true f bytes sort same h =
    let k : f.1 ≡ sort = cc in
    ap (λ own. Some (own, f.1)) (same refl) ∙ ap (λ e. Some (bytes, e)) k
own_chosen false f bytes sort same h = absurd cc

result_found : (f : Option (List ℕ × Elem)) (bytes : List ℕ) (sort : Elem) → result_sort f bytes ≡ Some sort → f ≡ Some (bytes, sort)
result_found None bytes sort h = absurd cc
result_found (Some f) bytes sort h = own_chosen (bytes_eq f.0 bytes) f bytes sort (bytes_eq-Decides f.0 bytes).0 h

level_is : (depth left : ℕ) → level_of depth ≡ Some left → depth ≡ suc left
level_is zero left h = absurd cc
level_is (suc depth) left h = let k : depth ≡ left = cc in ap suc k

string_found : (ws : List Lexeme) (x : List ℕ × List Lexeme) → string_at ws ≡ Some x → ws ≡ string x.0 ∷ x.1
string_found [] x h = absurd cc
string_found (string bytes ∷ ws) x h = let k = read_is (bytes, ws) x h in ap (λ b. string b ∷ ws) k.0 ∙ ap (λ r. string x.0 ∷ r) k.1
string_found (symbol s ∷ ws) x h = absurd cc
string_found (number_lexeme n ∷ ws) x h = absurd cc
string_found (identifier bytes ∷ ws) x h = absurd cc
string_found (end_mark ∷ ws) x h = absurd cc

-- a statement along equations
stmt_as : (names : Names) (depth : ℕ) (ws vs : List Lexeme) (s t : Statement) (rest : List Lexeme) → IsStmt names depth vs t rest → ws ≡ vs → t ≡ s → IsStmt names depth ws s rest
stmt_as names depth ws vs s t rest is same_text same_statement = rw (same_text, sym same_statement) is

stmt_before : (names : Names) (depth : ℕ) (ws : List Lexeme) (s : Statement) (rest behind : List Lexeme) → IsStmt names depth ws s rest → rest ≡ behind → IsStmt names depth ws s behind
stmt_before names depth ws s rest behind is same = rw (sym same) is

deep_as : (names : Names) (depth left : ℕ) (ws : List Lexeme) (s t : Statement) (rest : List Lexeme) → IsStmt names left ws t rest → depth ≡ left → t ≡ s → IsStmt names depth ws s rest
deep_as names depth left ws s t rest is same_depth same_statement = rw (same_depth, sym same_statement) is

element_found : (names : Names) (most depth : ℕ) (bytes : List ℕ) (ws : List Lexeme) (s : Statement) (rest : List Lexeme) → element_in names most bytes ws ≡ Some (s, rest) → IsStmt names depth (identifier bytes ∷ symbol symbols.OpenBracket ∷ ws) s rest
unfolding element_in
element_found names most depth bytes ws s rest h =
    let p = bind_some (found_in names.parts bytes) _ (s, rest) h in
    let e = bind_some (array_sort p.0.1) _ (s, rest) p.2 in
    let a = bind_some (nested_at names most 32 ws) _ (s, rest) e.2 in
    let i = bind_some (integer_form a.0.0) _ (s, rest) a.2 in
    let c = bind_some (symbol_at symbols.CloseBracket a.0.1) _ (s, rest) i.2 in
    let o = bind_some (symbol_at symbols.Assign c.0) _ (s, rest) c.2 in
    let b = bind_some (expr_at names most 32 o.0) _ (s, rest) o.2 in
    let x = bind_some (sorted e.0 b.0.0) _ (s, rest) b.2 in
    let z = read_is (set_element p.0.0 i.0 x.0, b.0.1) (s, rest) x.2 in
    let fits = sorted_is e.0 b.0.0 x.0 x.1 in
    let closing : a.0.1 ≡ symbol symbols.CloseBracket ∷ symbol symbols.Assign ∷ o.0 = symbol_found symbols.CloseBracket a.0.1 c.0 c.1 ∙ ap (λ w. symbol symbols.CloseBracket ∷ w) (symbol_found symbols.Assign c.0 o.0 o.1) in
    let index = expr_as names 31 ws a.0.0 (an_integer i.0) a.0.1 (symbol symbols.CloseBracket ∷ symbol symbols.Assign ∷ o.0) (nested_is_found names most 32 ws a.0.0 a.0.1 a.1) (integer_is a.0.0 i.0 i.1) closing in
    let value = expr_as names 32 o.0 b.0.0 x.0 b.0.1 rest (expr_is_found names most 32 o.0 b.0.0 b.0.1 b.1) fits.0 z.1 in
    let part : IsPart names bytes array_sort p.0.0 e.0 = record { kind = p.0.1; found = p.1; fits = e.1 } in
    stmt_as names depth (identifier bytes ∷ symbol symbols.OpenBracket ∷ ws) (identifier bytes ∷ symbol symbols.OpenBracket ∷ ws) s (set_element p.0.0 i.0 x.0) rest (an_element part index value fits.1) refl z.0

result_is_found : (names : Names) (most depth : ℕ) (bytes : List ℕ) (ws : List Lexeme) (s : Statement) (rest : List Lexeme) → result_in names most bytes ws ≡ Some (s, rest) → IsStmt names depth (identifier bytes ∷ ws) s rest
unfolding result_in
result_is_found names most depth bytes ws s rest h =
    let o = bind_some (symbol_at symbols.Assign ws) _ (s, rest) h in
    let e = bind_some (result_sort names.function bytes) _ (s, rest) o.2 in
    let b = bind_some (expr_at names most 32 o.0) _ (s, rest) e.2 in
    let x = bind_some (sorted e.0 b.0.0) _ (s, rest) b.2 in
    let z = read_is (set_result x.0, b.0.1) (s, rest) x.2 in
    let fits = sorted_is e.0 b.0.0 x.0 x.1 in
    let value = expr_as names 32 o.0 b.0.0 x.0 b.0.1 rest (expr_is_found names most 32 o.0 b.0.0 b.0.1 b.1) fits.0 z.1 in
    stmt_as names depth (identifier bytes ∷ ws) (identifier bytes ∷ symbol symbols.Assign ∷ o.0) s (set_result x.0) rest (a_result (result_found names.function bytes e.0 e.1) value fits.1)
    (ap (λ w. identifier bytes ∷ w) (symbol_found symbols.Assign ws o.0 o.1)) z.0

assigned_found : (names : Names) (most depth : ℕ) (o : Option (List Lexeme)) (bytes : List ℕ) (ws : List Lexeme) (s : Statement) (rest : List Lexeme) → symbol_at symbols.OpenBracket ws ≡ o → assigned_in names most bytes ws o ≡ Some (s, rest) →
    IsStmt names depth (identifier bytes ∷ ws) s rest
unfolding assigned_in
assigned_found names most depth None bytes ws s rest next h = result_is_found names most depth bytes ws s rest h
assigned_found names most depth (Some behind) bytes ws s rest next h = rw (symbol_found symbols.OpenBracket ws behind next) (element_found names most depth bytes behind s rest h)

append_found : (names : Names) (most depth : ℕ) (ws : List Lexeme) (s : Statement) (rest : List Lexeme) → append_in names most ws ≡ Some (s, rest) → IsStmt names depth (symbol symbols.Append ∷ ws) s rest
unfolding append_in
append_found names most depth ws s rest h =
    let p = bind_some (part_in names 32 ws) _ (s, rest) h in
    let e = bind_some (queue_sort p.0.1) _ (s, rest) p.2 in
    let o = bind_some (symbol_at symbols.Comma p.0.2) _ (s, rest) e.2 in
    let b = bind_some (nested_at names most 32 o.0) _ (s, rest) o.2 in
    let x = bind_some (sorted e.0 b.0.0) _ (s, rest) b.2 in
    let c = bind_some (symbol_at symbols.CloseParen b.0.1) _ (s, rest) x.2 in
    let z = read_is (append p.0.0 x.0, c.0) (s, rest) c.2 in
    let f = part_found names 32 ws p.0 p.1 in
    let fits = sorted_is e.0 b.0.0 x.0 x.1 in
    let closing : b.0.1 ≡ symbol symbols.CloseParen ∷ rest = symbol_found symbols.CloseParen b.0.1 c.0 c.1 ∙ ap (λ w. symbol symbols.CloseParen ∷ w) z.1 in
    let value = expr_as names 31 o.0 b.0.0 x.0 b.0.1 (symbol symbols.CloseParen ∷ rest) (nested_is_found names most 32 o.0 b.0.0 b.0.1 b.1) fits.0 closing in
    let part : IsPart names f.bytes queue_sort p.0.0 e.0 = record { kind = p.0.1; found = f.found; fits = e.1 } in
    stmt_as names depth (symbol symbols.Append ∷ ws) (symbol symbols.Append ∷ symbol symbols.OpenParen ∷ identifier f.bytes ∷ symbol symbols.Comma ∷ o.0) s (append p.0.0 x.0) rest (an_append part value fits.1)
    (ap (λ w. symbol symbols.Append ∷ w) (f.stands ∙ ap (λ w. symbol symbols.OpenParen ∷ identifier f.bytes ∷ w) (symbol_found symbols.Comma p.0.2 o.0 o.1))) z.0

take_found : (names : Names) (depth : ℕ) (ws : List Lexeme) (s : Statement) (rest : List Lexeme) → take_in names ws ≡ Some (s, rest) → IsStmt names depth (symbol symbols.Take ∷ ws) s rest
unfolding take_in
take_found names depth ws s rest h =
    let p = bind_some (part_in names 32 ws) _ (s, rest) h in
    let e = bind_some (queue_sort p.0.1) _ (s, rest) p.2 in
    let c = bind_some (symbol_at symbols.CloseParen p.0.2) _ (s, rest) e.2 in
    let z = read_is (take p.0.0, c.0) (s, rest) c.2 in
    let f = part_found names 32 ws p.0 p.1 in
    let closing : p.0.2 ≡ symbol symbols.CloseParen ∷ rest = symbol_found symbols.CloseParen p.0.2 c.0 c.1 ∙ ap (λ w. symbol symbols.CloseParen ∷ w) z.1 in
    let part : IsPart names f.bytes queue_sort p.0.0 e.0 = record { kind = p.0.1; found = f.found; fits = e.1 } in
    stmt_as names depth (symbol symbols.Take ∷ ws) (symbol symbols.Take ∷ symbol symbols.OpenParen ∷ identifier f.bytes ∷ symbol symbols.CloseParen ∷ rest) s (take p.0.0) rest (a_take part)
    (ap (λ w. symbol symbols.Take ∷ w) (f.stands ∙ ap (λ w. symbol symbols.OpenParen ∷ identifier f.bytes ∷ w) closing)) z.0

store_found : (names : Names) (most depth : ℕ) (ws : List Lexeme) (s : Statement) (rest : List Lexeme) → store_in names most ws ≡ Some (s, rest) → IsStmt names depth (symbol symbols.Store ∷ ws) s rest
unfolding store_in
store_found names most depth ws s rest h =
    let p = bind_some (part_in names 32 ws) _ (s, rest) h in
    let e = bind_some (table_sort p.0.1) _ (s, rest) p.2 in
    let o = bind_some (symbol_at symbols.Comma p.0.2) _ (s, rest) e.2 in
    let a = bind_some (nested_at names most 32 o.0) _ (s, rest) o.2 in
    let k = bind_some (text_form a.0.0) _ (s, rest) a.2 in
    let t = bind_some (symbol_at symbols.Comma a.0.1) _ (s, rest) k.2 in
    let b = bind_some (nested_at names most 32 t.0) _ (s, rest) t.2 in
    let x = bind_some (sorted e.0 b.0.0) _ (s, rest) b.2 in
    let c = bind_some (symbol_at symbols.CloseParen b.0.1) _ (s, rest) x.2 in
    let z = read_is (store p.0.0 k.0 x.0, c.0) (s, rest) c.2 in
    let f = part_found names 32 ws p.0 p.1 in
    let fits = sorted_is e.0 b.0.0 x.0 x.1 in
    let closing : b.0.1 ≡ symbol symbols.CloseParen ∷ rest = symbol_found symbols.CloseParen b.0.1 c.0 c.1 ∙ ap (λ w. symbol symbols.CloseParen ∷ w) z.1 in
    let key = expr_as names 31 o.0 a.0.0 (a_text k.0) a.0.1 (symbol symbols.Comma ∷ t.0) (nested_is_found names most 32 o.0 a.0.0 a.0.1 a.1) (text_is a.0.0 k.0 k.1) (symbol_found symbols.Comma a.0.1 t.0 t.1) in
    let value = expr_as names 31 t.0 b.0.0 x.0 b.0.1 (symbol symbols.CloseParen ∷ rest) (nested_is_found names most 32 t.0 b.0.0 b.0.1 b.1) fits.0 closing in
    let part : IsPart names f.bytes table_sort p.0.0 e.0 = record { kind = p.0.1; found = f.found; fits = e.1 } in
    stmt_as names depth (symbol symbols.Store ∷ ws) (symbol symbols.Store ∷ symbol symbols.OpenParen ∷ identifier f.bytes ∷ symbol symbols.Comma ∷ o.0) s (store p.0.0 k.0 x.0) rest (a_store part key value fits.1)
    (ap (λ w. symbol symbols.Store ∷ w) (f.stands ∙ ap (λ w. symbol symbols.OpenParen ∷ identifier f.bytes ∷ w) (symbol_found symbols.Comma p.0.2 o.0 o.1))) z.0

erase_found : (names : Names) (most depth : ℕ) (ws : List Lexeme) (s : Statement) (rest : List Lexeme) → erase_in names most ws ≡ Some (s, rest) → IsStmt names depth (symbol symbols.Erase ∷ ws) s rest
unfolding erase_in
erase_found names most depth ws s rest h =
    let p = bind_some (part_in names 32 ws) _ (s, rest) h in
    let e = bind_some (table_sort p.0.1) _ (s, rest) p.2 in
    let o = bind_some (symbol_at symbols.Comma p.0.2) _ (s, rest) e.2 in
    let a = bind_some (nested_at names most 32 o.0) _ (s, rest) o.2 in
    let k = bind_some (text_form a.0.0) _ (s, rest) a.2 in
    let c = bind_some (symbol_at symbols.CloseParen a.0.1) _ (s, rest) k.2 in
    let z = read_is (erase p.0.0 k.0, c.0) (s, rest) c.2 in
    let f = part_found names 32 ws p.0 p.1 in
    let closing : a.0.1 ≡ symbol symbols.CloseParen ∷ rest = symbol_found symbols.CloseParen a.0.1 c.0 c.1 ∙ ap (λ w. symbol symbols.CloseParen ∷ w) z.1 in
    let key = expr_as names 31 o.0 a.0.0 (a_text k.0) a.0.1 (symbol symbols.CloseParen ∷ rest) (nested_is_found names most 32 o.0 a.0.0 a.0.1 a.1) (text_is a.0.0 k.0 k.1) closing in
    let part : IsPart names f.bytes table_sort p.0.0 e.0 = record { kind = p.0.1; found = f.found; fits = e.1 } in
    stmt_as names depth (symbol symbols.Erase ∷ ws) (symbol symbols.Erase ∷ symbol symbols.OpenParen ∷ identifier f.bytes ∷ symbol symbols.Comma ∷ o.0) s (erase p.0.0 k.0) rest (an_erase part key)
    (ap (λ w. symbol symbols.Erase ∷ w) (f.stands ∙ ap (λ w. symbol symbols.OpenParen ∷ identifier f.bytes ∷ w) (symbol_found symbols.Comma p.0.2 o.0 o.1))) z.0

refuse_found : (names : Names) (depth : ℕ) (ws : List Lexeme) (s : Statement) (rest : List Lexeme) → refuse_in ws ≡ Some (s, rest) → IsStmt names depth (symbol symbols.Refuse ∷ ws) s rest
unfolding refuse_in
refuse_found names depth ws s rest h =
    let o = bind_some (symbol_at symbols.OpenParen ws) _ (s, rest) h in
    let t = bind_some (string_at o.0) _ (s, rest) o.2 in
    let w = bind_some (word_of_refusal t.0.0) _ (s, rest) t.2 in
    let c = bind_some (symbol_at symbols.CloseParen t.0.1) _ (s, rest) w.2 in
    let z = read_is (refuse w.0, c.0) (s, rest) c.2 in
    let f = word_found t.0.0 w.0 w.1 in
    let closing : t.0.1 ≡ symbol symbols.CloseParen ∷ rest = symbol_found symbols.CloseParen t.0.1 c.0 c.1 ∙ ap (λ v. symbol symbols.CloseParen ∷ v) z.1 in
    let opening : ws ≡ symbol symbols.OpenParen ∷ string t.0.0 ∷ symbol symbols.CloseParen ∷ rest = symbol_found symbols.OpenParen ws o.0 o.1 ∙ ap (λ v. symbol symbols.OpenParen ∷ v) (string_found o.0 t.0 t.1 ∙ ap (λ v. string t.0.0 ∷ v) closing) in
    stmt_as names depth (symbol symbols.Refuse ∷ ws) (symbol symbols.Refuse ∷ symbol symbols.OpenParen ∷ string t.0.0 ∷ symbol symbols.CloseParen ∷ rest) s (refuse t.0.0) rest (a_refuse f.0)
    (ap (λ v. symbol symbols.Refuse ∷ v) opening) (ap refuse (sym f.1) ∙ z.0)

-- what a reader of statements finds, with so many levels left
abbrev StatementFinds : Names → ℕ → Reader Statement → Type 0
StatementFinds names depth reader = (ws : List Lexeme) (s : Statement) (rest : List Lexeme) → reader ws ≡ Some (s, rest) → IsStmt names depth ws s rest

-- the same, one level deeper
abbrev InnerFinds : Names → ℕ → Reader Statement → Type 0
InnerFinds names depth inner = (left : ℕ) → depth ≡ suc left → StatementFinds names left inner

other_found : (names : Names) (depth : ℕ) (inner : Reader Statement) → StatementFinds names depth inner → (o : Option (List Lexeme)) (ws vs us : List Lexeme) (c : Condition) (s t : Statement) (rest : List Lexeme) → symbol_at symbols.Else us ≡ o →
    other_in inner us o ≡ Some (t, rest) → IsCond names 32 ws c (symbol symbols.Then ∷ vs) → IsStmt names depth vs s us → IsStmt names (suc depth) (symbol symbols.If ∷ ws) (choose c s t) rest
unfolding other_in
other_found names depth inner finds None ws vs us c s t rest next h test first =
    let z = read_is (block nothing, us) (t, rest) h in
    let ends : symbol_at symbols.Else rest ≡ None = ap (symbol_at symbols.Else) (sym z.1) ∙ next in
    stmt_as names (suc depth) (symbol symbols.If ∷ ws) (symbol symbols.If ∷ ws) (choose c s t) (choose c s (block nothing)) rest (an_if test (stmt_before names depth vs s us rest first z.1) ends) refl (ap (choose c s) z.0)
other_found names depth inner finds (Some behind) ws vs us c s t rest next h test first =
    an_if_else test (stmt_before names depth vs s us (symbol symbols.Else ∷ behind) first (symbol_found symbols.Else us behind next)) (finds behind t rest h)

if_found : (names : Names) (most depth : ℕ) (inner : Reader Statement) → InnerFinds names depth inner → (ws : List Lexeme) (s : Statement) (rest : List Lexeme) → if_in names most inner depth ws ≡ Some (s, rest) → IsStmt names depth (symbol symbols.If ∷ ws) s rest
unfolding if_in
if_found names most depth inner finds ws s rest h =
    let l = bind_some (level_of depth) _ (s, rest) h in
    let c = bind_some (condition_at names most 32 ws) _ (s, rest) l.2 in
    let o = bind_some (symbol_at symbols.Then c.0.1) _ (s, rest) c.2 in
    let x = bind_some (inner o.0) _ (s, rest) o.2 in
    let y = bind_some (other_in inner x.0.1 (symbol_at symbols.Else x.0.1)) _ (s, rest) x.2 in
    let z = read_is (choose c.0.0 x.0.0 y.0.0, y.0.1) (s, rest) y.2 in
    let deep = level_is depth l.0 l.1 in
    let test : IsCond names 32 ws c.0.0 (symbol symbols.Then ∷ o.0) = cond_found names most 32 ws c.0.0 (symbol symbols.Then ∷ o.0) (c.1 ∙ ap (λ w. Some (c.0.0, w)) (symbol_found symbols.Then c.0.1 o.0 o.1)) in
    let first = finds l.0 deep o.0 x.0.0 x.0.1 x.1 in
    deep_as names depth (suc l.0) (symbol symbols.If ∷ ws) s (choose c.0.0 x.0.0 y.0.0) rest
    (other_found names l.0 inner (finds l.0 deep) (symbol_at symbols.Else x.0.1) ws o.0 x.0.1 c.0.0 x.0.0 y.0.0 rest refl (y.1 ∙ ap (λ w. Some (y.0.0, w)) z.1) test first) deep z.0

-- statements that were read, behind those so far
record StatementsFound (names : Names) (depth : ℕ) (done : Statements) (ws : List Lexeme) (total : Statements) (rest : List Lexeme) : Type 0 where
  pub all : Statements
  pub is_joined : total ≡ joined done all
  pub is : IsStmts names depth ws all rest

abbrev OthersFind : Names → ℕ → (Statements → Reader Statements) → Type 0
OthersFind names depth others = (done : Statements) (ws : List Lexeme) (total : Statements) (rest : List Lexeme) → others done ws ≡ Some (total, rest) → StatementsFound names depth done ws total rest

next_found : (names : Names) (depth : ℕ) (others : Statements → Reader Statements) → OthersFind names depth others → (o : Option (List Lexeme)) (done : Statements) (s : Statement) (ws after : List Lexeme) (total : Statements) (rest : List Lexeme) →
    symbol_at symbols.Semicolon after ≡ o → IsStmt names depth ws s after → statements_by others (and_then done s) after o ≡ Some (total, rest) → StatementsFound names depth done ws total rest
unfolding statements_by
next_found names depth others find None done s ws after total rest next is h =
    let e = bind_some (symbol_at symbols.End after) _ (total, rest) h in
    let z = read_is (and_then done s, e.0) (total, rest) e.2 in
    let ends : after ≡ symbol symbols.End ∷ rest = symbol_found symbols.End after e.0 e.1 ∙ ap (λ w. symbol symbols.End ∷ w) z.1 in
    record { all = first_and s nothing; is_joined = sym z.0 ∙ joined_last done s; is = last (stmt_before names depth ws s after (symbol symbols.End ∷ rest) is ends) }
next_found names depth others find (Some behind) done s ws after total rest next is h =
    let f = find (and_then done s) behind total rest h in
    record { all = first_and s f.all; is_joined = f.is_joined ∙ joined_more done s f.all; is = and_more (stmt_before names depth ws s after (symbol symbols.Semicolon ∷ behind) is (symbol_found symbols.Semicolon after behind next)) f.is }

statements_found : (names : Names) (depth : ℕ) (inner : Reader Statement) → StatementFinds names depth inner → (left : ℕ) → OthersFind names depth (statements_at inner left)
unfolding statements_at
statements_found names depth inner finds zero done ws total rest h = absurd cc
statements_found names depth inner finds (suc left) done ws total rest h =
    let x = bind_some (inner ws) _ (total, rest) h in
    next_found names depth (statements_at inner left) (statements_found names depth inner finds left) (symbol_at symbols.Semicolon x.0.1) done x.0.0 ws x.0.1 total rest refl (finds ws x.0.0 x.0.1 x.1) x.2

-- statements behind none are all
all_found : (names : Names) (depth most : ℕ) (inner : Reader Statement) → StatementFinds names depth inner → (ws : List Lexeme) (all : Statements) (rest : List Lexeme) → statements_at inner most nothing ws ≡ Some (all, rest) → IsStmts names depth ws all rest
all_found names depth most inner finds ws all rest h =
    let f = statements_found names depth inner finds most nothing ws all rest h in
    let same : all ≡ f.all = f.is_joined in
    rw same f.is

block_found : (names : Names) (most depth : ℕ) (inner : Reader Statement) → InnerFinds names depth inner → (ws : List Lexeme) (s : Statement) (rest : List Lexeme) → block_in inner most depth ws ≡ Some (s, rest) → IsStmt names depth (symbol symbols.Begin ∷ ws) s rest
unfolding block_in
block_found names most depth inner finds ws s rest h =
    let l = bind_some (level_of depth) _ (s, rest) h in
    let x = bind_some (statements_at inner most nothing ws) _ (s, rest) l.2 in
    let z = read_is (block x.0.0, x.0.1) (s, rest) x.2 in
    let deep = level_is depth l.0 l.1 in
    let all = all_found names l.0 most inner (finds l.0 deep) ws x.0.0 rest (x.1 ∙ ap (λ w. Some (x.0.0, w)) z.1) in
    deep_as names depth (suc l.0) (symbol symbols.Begin ∷ ws) s (block x.0.0) rest (a_block all) deep z.0

empty_found : (names : Names) (depth : ℕ) (ws : List Lexeme) (s : Statement) (rest : List Lexeme) → ◌≡◌ {A = Option (Statement × List Lexeme)} (Some (block nothing, ws)) (Some (s, rest)) → IsStmt names depth ws s rest
empty_found names depth ws s rest h =
    let z = read_is (block nothing, ws) (s, rest) h in
    stmt_as names depth ws rest s (block nothing) rest no_statement z.1 z.0

by_symbol_found : (names : Names) (most depth : ℕ) (inner : Reader Statement) → InnerFinds names depth inner → (w : Symbol) (begins ifs appends takes stores erases refuses : Bool) (ws : List Lexeme) (s : Statement) (rest : List Lexeme) →
    (begins ≡ true → w ≡ symbols.Begin) → (ifs ≡ true → w ≡ symbols.If) → (appends ≡ true → w ≡ symbols.Append) → (takes ≡ true → w ≡ symbols.Take) → (stores ≡ true → w ≡ symbols.Store) → (erases ≡ true → w ≡ symbols.Erase) → (refuses ≡ true → w ≡ symbols.Refuse) →
    cond begins (block_in inner most depth ws) (cond ifs (if_in names most inner depth ws) (cond appends (append_in names most ws) (cond takes (take_in names ws) (cond stores (store_in names most ws) (cond erases (erase_in names most ws) (cond refuses (refuse_in ws) (Some (block nothing, symbol w ∷ ws)))))))) ≡ Some (s, rest) →
    IsStmt names depth (symbol w ∷ ws) s rest
by_symbol_found names most depth inner finds w true ifs appends takes stores erases refuses ws s rest a b c d e f g h = rw (a refl) (block_found names most depth inner finds ws s rest h)
by_symbol_found names most depth inner finds w false true appends takes stores erases refuses ws s rest a b c d e f g h = rw (b refl) (if_found names most depth inner finds ws s rest h)
by_symbol_found names most depth inner finds w false false true takes stores erases refuses ws s rest a b c d e f g h = rw (c refl) (append_found names most depth ws s rest h)
by_symbol_found names most depth inner finds w false false false true stores erases refuses ws s rest a b c d e f g h = rw (d refl) (take_found names depth ws s rest h)
by_symbol_found names most depth inner finds w false false false false true erases refuses ws s rest a b c d e f g h = rw (e refl) (store_found names most depth ws s rest h)
by_symbol_found names most depth inner finds w false false false false false true refuses ws s rest a b c d e f g h = rw (f refl) (erase_found names most depth ws s rest h)
by_symbol_found names most depth inner finds w false false false false false false true ws s rest a b c d e f g h = rw (g refl) (refuse_found names depth ws s rest h)
by_symbol_found names most depth inner finds w false false false false false false false ws s rest a b c d e f g h = empty_found names depth (symbol w ∷ ws) s rest h

statement_found : (names : Names) (most depth : ℕ) (inner : Reader Statement) → InnerFinds names depth inner → StatementFinds names depth (statement_in names most inner depth)
unfolding statement_in statement_by_symbol
statement_found names most depth inner finds [] s rest h = empty_found names depth [] s rest h
statement_found names most depth inner finds (identifier bytes ∷ ws) s rest h = assigned_found names most depth (symbol_at symbols.OpenBracket ws) bytes ws s rest refl h
statement_found names most depth inner finds (symbol w ∷ ws) s rest h =
    by_symbol_found names most depth inner finds w (same_symbol w symbols.Begin) (same_symbol w symbols.If) (same_symbol w symbols.Append) (same_symbol w symbols.Take) (same_symbol w symbols.Store) (same_symbol w symbols.Erase) (same_symbol w symbols.Refuse) ws s rest
    (symbols_same w symbols.Begin) (symbols_same w symbols.If) (symbols_same w symbols.Append) (symbols_same w symbols.Take) (symbols_same w symbols.Store) (symbols_same w symbols.Erase) (symbols_same w symbols.Refuse) h
statement_found names most depth inner finds (number_lexeme n ∷ ws) s rest h = empty_found names depth (number_lexeme n ∷ ws) s rest h
statement_found names most depth inner finds (string bytes ∷ ws) s rest h = empty_found names depth (string bytes ∷ ws) s rest h
statement_found names most depth inner finds (end_mark ∷ ws) s rest h = empty_found names depth (end_mark ∷ ws) s rest h

inner_found : (names : Names) (most depth : ℕ) → InnerFinds names depth (inner_at names most depth)
unfolding inner_at
inner_found names most zero left deep ws s rest h = absurd cc
inner_found names most (suc depth) left deep ws s rest h =
    let same : left ≡ depth = cc in
    rw same (statement_found names most depth (inner_at names most depth) (inner_found names most depth) ws s rest h)

-- a statement that is read is one of the grammar
pub stmt_found : (names : Names) (most depth : ℕ) (ws : List Lexeme) (s : Statement) (rest : List Lexeme) → statement_in names most (inner_at names most depth) depth ws ≡ Some (s, rest) → IsStmt names depth ws s rest
stmt_found names most depth ws s rest h = statement_found names most depth (inner_at names most depth) (inner_found names most depth) ws s rest h

-- the statements of a body that are read are some of the grammar
pub body_found : (names : Names) (most : ℕ) (ws : List Lexeme) (all : Statements) (rest : List Lexeme) → body_in names most ws ≡ Some (all, rest) → IsStmts names 31 ws all rest
unfolding body_in
body_found names most ws all rest h = all_found names 31 most (inner_at names most 32) (inner_found names most 32 31 refl) ws all rest h

-- the statements of a body are read exactly
pub body_exact : (names : Names) (most : ℕ) → Exact most (IsStmts names 31) (body_in names most)
body_exact names most = record {
  found = λ ws all rest h. body_found names most ws all rest h;
  read = λ ws all rest long h. body_read names most ws all rest long h;
  shorter = λ ws all rest h. stmts_shorter names 31 ws all rest h;
}
