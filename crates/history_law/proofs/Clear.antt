-- Each identifier among lexemes is a name, and so it is among those that are left behind each piece of the grammar.
use Rattle.std.proofs.Common.{ℕ, zero, suc, ◌-◌, Bool, List, [], ◌∷◌, ◌++◌, length, drop, subst, arith}
use Rattle.std.specs.Prelude.{All}
use Rattle.path_tree.specs.declared.token.Symbol.TheVariants as symbols
use Rattle.path_tree.specs.Identifier.{IsName}
use Rattle.path_tree.specs.Path.{Path}
use Rattle.path_tree.specs.Lexeme.{Lexeme, symbol, number, identifier, string, end_mark}
use Rattle.value_core.specs.declared.kind.Elem.{Elem}
use Rattle.value_core.specs.declared.kind.Kind.{Kind}
use Rattle.decl_core.specs.Form.{Form, Condition, Statement, Statements, an_integer, a_text}
use Rattle.body_read.specs.Grammar.{IsExprBefore, expr_lexemes}
use Rattle.token_read.specs.Names.{Names}
use Rattle.token_read.specs.Series.{IsSeries, no_more, and_another}
use Rattle.body_read.specs.Statements.{IsCond, comparison, a_has, a_not, IsStmt, no_statement, a_block, an_element, a_result, an_append, a_take, a_store, an_erase, an_if, an_if_else, a_refuse, IsStmts, last, and_more}
use Rattle.decl_parts.specs.Declarations.{begins, begins_name, IsConstant, constant, IsConsts, consts, IsPathItem, a_path, IsKind, an_array, a_queue, a_table, IsNames, last_name, name_and, each_with, names_of_parts, with_params, IsPartGroup, part_group, IsVar, var, IsGroup, group, IsNextGroup, next_group, IsParams, no_params, some_params}

-- it holds of each item
abbrev pub Each : {X : Type 0} → (X → Type 0) → List X → Type 0
Each P [] = Unit {0}
Each P (x ∷ xs) = P x × Each P xs

-- an identifier is a name
abbrev pub IsClear : Lexeme → Type 0
IsClear (symbol s) = Unit {0}
IsClear (number n) = Unit {0}
IsClear (identifier bytes) = IsName bytes
IsClear (string bytes) = Unit {0}
IsClear end_mark = Unit {0}

abbrev pub Clear : List Lexeme → Type 0
Clear ws = Each IsClear ws

each_behind : {X : Type 0} (P : X → Type 0) (xs ys : List X) → Each P (xs ++ ys) → Each P ys
each_behind P [] ys each = each
each_behind P (x ∷ xs) ys each = each_behind P xs ys each.1

each_drop : {X : Type 0} (P : X → Type 0) (n : ℕ) (xs : List X) → Each P xs → Each P (drop n xs)
each_drop P zero xs each = each
each_drop P (suc n) [] each = tt
each_drop P (suc n) (x ∷ xs) each = each_drop P n xs each.1

pub each_push : {X : Type 0} (P : X → Type 0) (xs : List X) (y : X) → Each P xs → P y → Each P (xs ++ y ∷ [])
each_push P [] y each is = (is, tt)
each_push P (x ∷ xs) y each is = (each.0, each_push P xs y each.1 is)

pub all_each : {X : Type 0} (P : X → Type 0) (xs : List X) → Each P xs → All P xs
all_each P [] each k d within = absurd (omega (arith, within))
all_each P (x ∷ xs) each zero d within = each.0
all_each P (x ∷ xs) each (suc k) d within = all_each P xs each.1 k d (omega (arith, within))

expr_clear : (names : Names) (depth : ℕ) (ws : List Lexeme) (x : Form) (rest : List Lexeme) → IsExprBefore names depth ws x rest → Clear ws → Clear rest
expr_clear names depth ws x rest is clear = each_behind IsClear (expr_lexemes is.text) rest (subst Clear is.stands clear)

module _ (names : Names) where
  cond_clear : (depth : ℕ) (ws : List Lexeme) (c : Condition) (rest : List Lexeme) → IsCond names depth ws c rest → Clear ws → Clear rest
  cond_clear depth ws c rest (comparison {vs = vs} {x = x} {y = y} {s = s} left is right compares) clear =
      expr_clear names depth vs y rest right (expr_clear names depth ws x (symbol s ∷ vs) left clear).1
  cond_clear depth ws c rest (a_has {depth = d} {ws = vs} {k = k} part key) clear = (expr_clear names d vs (a_text k) (symbol symbols.CloseParen ∷ rest) key clear.1.1.1.1).1
  cond_clear depth ws c rest (a_not {depth = d} {ws = vs} {c = inner} is) clear = cond_clear d vs inner rest is clear.1

  mutual
    stmt_clear : (depth : ℕ) (ws : List Lexeme) (s : Statement) (rest : List Lexeme) → IsStmt names depth ws s rest → Clear ws → Clear rest
    stmt_clear depth ws s rest no_statement clear = clear
    stmt_clear depth ws s rest (a_block {depth = d} {ws = vs} {all = all} is) clear = stmts_clear d vs all rest is clear.1
    stmt_clear depth ws s rest (an_element {ws = us} {vs = vs} {i = i} {x = x} part index value same) clear =
        expr_clear names 32 vs x rest value (expr_clear names 31 us (an_integer i) (symbol symbols.CloseBracket ∷ symbol symbols.Assign ∷ vs) index clear.1.1).1.1
    stmt_clear depth ws s rest (a_result {ws = vs} {x = x} own value same) clear = expr_clear names 32 vs x rest value clear.1.1
    stmt_clear depth ws s rest (an_append {ws = vs} {x = x} part value same) clear = (expr_clear names 31 vs x (symbol symbols.CloseParen ∷ rest) value clear.1.1.1.1).1
    stmt_clear depth ws s rest (a_take part) clear = clear.1.1.1.1
    stmt_clear depth ws s rest (a_store {ws = us} {vs = vs} {k = k} {x = x} part key value same) clear =
        (expr_clear names 31 vs x (symbol symbols.CloseParen ∷ rest) value (expr_clear names 31 us (a_text k) (symbol symbols.Comma ∷ vs) key clear.1.1.1.1).1).1
    stmt_clear depth ws s rest (an_erase {ws = vs} {k = k} part key) clear = (expr_clear names 31 vs (a_text k) (symbol symbols.CloseParen ∷ rest) key clear.1.1.1.1).1
    stmt_clear depth ws s rest (an_if {depth = d} {ws = us} {vs = vs} {c = c} {s = t} test first none) clear =
        stmt_clear d vs t rest first (cond_clear 32 us c (symbol symbols.Then ∷ vs) test clear.1).1
    stmt_clear depth ws s rest (an_if_else {depth = d} {ws = ws'} {vs = vs} {us = us} {c = c} {s = t} {t = u} test first second) clear =
        stmt_clear d us u rest second (stmt_clear d vs t (symbol symbols.Else ∷ us) first (cond_clear 32 ws' c (symbol symbols.Then ∷ vs) test clear.1).1).1
    stmt_clear depth ws s rest (a_refuse is) clear = clear.1.1.1.1

    pub stmts_clear : (depth : ℕ) (ws : List Lexeme) (all : Statements) (rest : List Lexeme) → IsStmts names depth ws all rest → Clear ws → Clear rest
    stmts_clear depth ws all rest (last {s = s} is) clear = (stmt_clear depth ws s (symbol symbols.End ∷ rest) is clear).1
    stmts_clear depth ws all rest (and_more {vs = vs} {s = s} {all = others} is more) clear =
        stmts_clear depth vs others rest more (stmt_clear depth ws s (symbol symbols.Semicolon ∷ vs) is clear).1

-- what each item of a series keeps where its lexemes are clear, the whole series keeps, and what is left is clear
pub series_clear : {S : Type 0} (P : S → Type 0) (IsItem : S → List Lexeme → S → List Lexeme → Type 0) (begins : List Lexeme → Bool) →
    ((s : S) (ws : List Lexeme) (t : S) (rest : List Lexeme) → IsItem s ws t rest → P s → Clear ws → P t × Clear rest) →
    (left : ℕ) (s : S) (ws : List Lexeme) (t : S) (rest : List Lexeme) → IsSeries IsItem begins left s ws t rest → P s → Clear ws → P t × Clear rest
series_clear P IsItem begins keeps left s ws t rest (no_more is) given clear = (given, clear)
series_clear P IsItem begins keeps (suc left) s ws t rest (and_another {t = u} {vs = vs} is one others) given clear =
    let next = keeps s ws u vs one given clear in
    series_clear P IsItem begins keeps left u vs t rest others next.0 next.1

-- the same, of which nothing is kept
abbrev Nothing : {S : Type 0} → S → Type 0
Nothing s = Unit {0}

constant_clear : (before : List (List ℕ × ℕ)) (ws : List Lexeme) (after : List (List ℕ × ℕ)) (rest : List Lexeme) → IsConstant before ws after rest → Nothing before → Clear ws → Nothing after × Clear rest
constant_clear before ws after rest (constant new room) given clear = (tt, clear.1.1.1.1)

pub consts_clear : (before : List (List ℕ × ℕ)) (ws : List Lexeme) (after : List (List ℕ × ℕ)) (rest : List Lexeme) → IsConsts before ws after rest → Nothing before → Clear ws → Nothing after × Clear rest
consts_clear before ws after rest (consts {one = one} {ws = us} {vs = vs} first others) given clear =
    let next = constant_clear before us one vs first tt clear.1 in
    series_clear Nothing IsConstant begins_name constant_clear 16 one vs after rest others tt next.1

pub path_clear : (constants : List (List ℕ × ℕ)) (operations : List (List ℕ)) (before : List Path) (ws : List Lexeme) (after : List Path) (rest : List Lexeme) → IsPathItem constants operations before ws after rest →
    Nothing before → Clear ws → Nothing after × Clear rest
path_clear constants operations before ws after rest (a_path {to = to} room is ends) given clear = (tt, (subst Clear ends (each_drop IsClear to ws clear)).1)

kind_clear : (constants : List (List ℕ × ℕ)) (ws : List Lexeme) (k : Kind) (rest : List Lexeme) → IsKind constants ws k rest → Clear ws → Clear rest
kind_clear constants ws k rest (an_array size least most is) clear = clear.1.1.1.1.1.1
kind_clear constants ws k rest (a_queue is) clear = clear.1.1.1
kind_clear constants ws k rest (a_table is) clear = clear.1.1.1

names_clear : (names : Names) (left : ℕ) (before : List (List ℕ)) (ws : List Lexeme) (all : List (List ℕ)) (rest : List Lexeme) → IsNames names left before ws all rest →
    Each IsName before → Clear ws → Each IsName all × Clear rest
names_clear names left before ws all rest (last_name {bytes = bytes} unknown new) given clear = (each_push IsName before bytes given clear.0, clear.1.1)
names_clear names left before ws all rest (name_and {left = less} {bytes = bytes} {ws = vs} unknown new others) given clear =
    names_clear names less (before ++ bytes ∷ []) vs all rest others (each_push IsName before bytes given clear.0) clear.1.1

-- what has a name
abbrev pub HasName : {A : Type 0} → List ℕ × A → Type 0
HasName p = IsName p.0

named_with : {A : Type 0} (a : A) (before : List (List ℕ × A)) (new : List (List ℕ)) → Each HasName before → Each IsName new → Each HasName (before ++ each_with a new)
named_with a [] [] given each = tt
named_with a [] (n ∷ new) given each = (each.0, named_with a [] new tt each.1)
named_with a (p ∷ before) new given each = (given.0, named_with a before new given.1 each)

part_group_clear : (constants : List (List ℕ × ℕ)) (before : List (List ℕ × Kind)) (ws : List Lexeme) (after : List (List ℕ × Kind)) (rest : List Lexeme) → IsPartGroup constants before ws after rest →
    Each HasName before → Clear ws → Each HasName after × Clear rest
part_group_clear constants before ws after rest (part_group {new = new} {k = k} {vs = vs} named is) given clear =
    let n = names_clear (names_of_parts constants before) (16 - length before) [] ws new vs named tt clear in
    (named_with k before new given n.0, (kind_clear constants vs k (symbol symbols.Semicolon ∷ rest) is n.1).1)

pub var_clear : (constants : List (List ℕ × ℕ)) (before : List (List ℕ × Kind)) (ws : List Lexeme) (after : List (List ℕ × Kind)) (rest : List Lexeme) → IsVar constants before ws after rest →
    Each HasName before → Clear ws → Each HasName after × Clear rest
var_clear constants before ws after rest (var {one = one} {ws = us} {vs = vs} first others) given clear =
    let next = part_group_clear constants before us one vs first given clear.1 in
    series_clear (Each HasName) (IsPartGroup constants) begins_name (part_group_clear constants) 16 one vs after rest others next.0 next.1

group_clear : (names : Names) (before : List (List ℕ × Elem)) (ws : List Lexeme) (after : List (List ℕ × Elem)) (rest : List Lexeme) → IsGroup names before ws after rest → Nothing before → Clear ws → Nothing after × Clear rest
group_clear names before ws after rest (group {new = new} {s = s} named is) given clear =
    (tt, (names_clear (with_params names before) (8 - length before) [] ws new (symbol s ∷ rest) named tt clear).1.1)

next_group_clear : (names : Names) (before : List (List ℕ × Elem)) (ws : List Lexeme) (after : List (List ℕ × Elem)) (rest : List Lexeme) → IsNextGroup names before ws after rest → Nothing before → Clear ws → Nothing after × Clear rest
next_group_clear names before ws after rest (next_group {ws = vs} is) given clear = group_clear names before vs after rest is tt clear.1

pub params_clear : (names : Names) (ws : List Lexeme) (params : List (List ℕ × Elem)) (rest : List Lexeme) → IsParams names ws params rest → Clear ws → Clear rest
params_clear names ws params rest (no_params none) clear = clear
params_clear names ws params rest (some_params {one = one} {ws = us} {vs = vs} first others) clear =
    let next = group_clear names [] us one vs first tt clear.1 in
    (series_clear Nothing (IsNextGroup names) (begins symbols.Semicolon) (next_group_clear names) 8 one vs params (symbol symbols.CloseParen ∷ rest) others tt next.1).1.1
