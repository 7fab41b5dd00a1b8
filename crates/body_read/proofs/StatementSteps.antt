-- One step of reading conditions and statements.
use Rattle.std.proofs.Common.{◌≡◌, ℕ, zero, suc, ◌-◌, ◌+◌, ◌≤◌, ◌<◌, List, [], ◌∷◌, ◌++◌, ap, Option, Some, None, refl, sym, ◌∙◌, arith}
use Rattle.path_tree.specs.Lexeme.{Lexeme}
use Rattle.path_tree.specs.declared.token.Symbol.TheVariants as symbols
use Rattle.path_tree.specs.Reading.{symbol_at}
use Rattle.token_read.specs.declared.text_fault.TextFault.{TextFault}
use Rattle.decl_core.specs.declared.stmt.Stmt.{Stmt}
use Rattle.decl_core.specs.Form.{Statement, Statements, first_and}
use Rattle.decl_core.specs.View.{statement_of, all_of}
use Rattle.token_read.specs.Reader.{Fails, Reader}
use Rattle.token_read.specs.Names.{Names}
use Rattle.token_read.proofs.Steps.{by_fault}
use Rattle.body_read.specs.StatementReading.{condition_at, deeper_condition, and_then, statements_by, statements_at, statement_in, inner_at}

pub deeper_step : (names : Names) (most depth : ℕ) (ws : List Lexeme) → 0 < depth → deeper_condition names most depth ws ≡ condition_at names most (depth - 1) ws
unfolding deeper_condition
deeper_step names most zero ws h = absurd (omega arith)
deeper_step names most (suc depth) ws h = let e : suc depth - 1 ≡ depth = omega arith in rw e refl

pub deeper_none : (names : Names) (most depth : ℕ) (ws : List Lexeme) → depth ≡ 0 → deeper_condition names most depth ws ≡ None
unfolding deeper_condition
deeper_none names most zero ws h = refl
deeper_none names most (suc depth) ws h = absurd (omega arith)

pub inner_step : (names : Names) (most depth : ℕ) (ws : List Lexeme) → 0 < depth → inner_at names most depth ws ≡ statement_in names most (inner_at names most (depth - 1)) (depth - 1) ws
unfolding inner_at
inner_step names most zero ws h = absurd (omega arith)
inner_step names most (suc depth) ws h = let e : suc depth - 1 ≡ depth = omega arith in rw e refl

pub inner_none : (names : Names) (most depth : ℕ) (ws : List Lexeme) → depth ≡ 0 → inner_at names most depth ws ≡ None
unfolding inner_at
inner_none names most zero ws h = refl
inner_none names most (suc depth) ws h = absurd (omega arith)

-- one statement more
pub one_statement_more : (done : List Stmt) (s : Stmt) → all_of (done ++ s ∷ []) ≡ and_then (all_of done) (statement_of s)
one_statement_more [] s = refl
one_statement_more (t ∷ rest) s = ap (first_and (statement_of t)) (one_statement_more rest s)

-- the answer of statements that are being read
abbrev pub AreRead : Reader Statement → ℕ → Statements → List Lexeme → Option (Statements × List Lexeme) → Type 0
AreRead inner left done ws total = statements_at inner left done ws ≡ total

step : (inner : Reader Statement) (most i : ℕ) (done : Statements) (s : Statement) (ws after : List Lexeme) → i < most → inner ws ≡ Some (s, after) →
    statements_at inner (most - i) done ws ≡ statements_by (statements_at inner (most - (i + 1))) (and_then done s) after (symbol_at symbols.Semicolon after)
unfolding statements_at
step inner most i done s ws after lt read = let n : most - i ≡ suc (most - (i + 1)) = omega arith in rw (n, read) refl

pub statements_end : (inner : Reader Statement) (most i : ℕ) (done : Statements) (s : Statement) (ws after rest : List Lexeme) (total : Option (Statements × List Lexeme)) → i < most → inner ws ≡ Some (s, after) →
    symbol_at symbols.Semicolon after ≡ None → symbol_at symbols.End after ≡ Some rest → AreRead inner (most - i) done ws total → total ≡ Some (and_then done s, rest)
unfolding statements_by
statements_end inner most i done s ws after rest total lt read none ends so_far = sym so_far ∙ step inner most i done s ws after lt read ∙ rw (none, ends) refl

pub statements_go_on : (inner : Reader Statement) (most i : ℕ) (done : Statements) (s : Statement) (ws after behind : List Lexeme) (total : Option (Statements × List Lexeme)) → i < most → inner ws ≡ Some (s, after) →
    symbol_at symbols.Semicolon after ≡ Some behind → AreRead inner (most - i) done ws total → AreRead inner (most - (i + 1)) (and_then done s) behind total
unfolding statements_by
statements_go_on inner most i done s ws after behind total lt read on so_far = sym (step inner most i done s ws after lt read ∙ rw on refl) ∙ so_far

pub statement_fails : (e : TextFault) (inner : Reader Statement) (most i : ℕ) (done : Statements) (ws : List Lexeme) (total : Option (Statements × List Lexeme)) → i < most →
    Fails e (inner ws) → AreRead inner (most - i) done ws total → Fails e total
unfolding statements_at
statement_fails e inner most i done ws total lt fails so_far =
    let n : most - i ≡ suc (most - (i + 1)) = omega arith in
    let f : (inner ws ≡ None) → (total ≡ None) = λ none. sym so_far ∙ rw (n, none) refl in
    by_fault e (inner ws) total fails f

pub end_fails : (e : TextFault) (inner : Reader Statement) (most i : ℕ) (done : Statements) (s : Statement) (ws after : List Lexeme) (total : Option (Statements × List Lexeme)) → i < most → inner ws ≡ Some (s, after) →
    symbol_at symbols.Semicolon after ≡ None → Fails e (symbol_at symbols.End after) → AreRead inner (most - i) done ws total → Fails e total
unfolding statements_by
end_fails e inner most i done s ws after total lt read none fails so_far =
    let f : (symbol_at symbols.End after ≡ None) → (total ≡ None) = λ ends. sym so_far ∙ step inner most i done s ws after lt read ∙ rw (none, ends) refl in
    by_fault e (symbol_at symbols.End after) total fails f

pub statements_over : (inner : Reader Statement) (most i : ℕ) (done : Statements) (ws : List Lexeme) (total : Option (Statements × List Lexeme)) → most ≤ i → AreRead inner (most - i) done ws total → total ≡ None
unfolding statements_at
statements_over inner most i done ws total le so_far = let n : most - i ≡ 0 = omega arith in sym so_far ∙ rw n refl
