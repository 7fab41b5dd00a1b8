-- What the grammar has is well typed, where all parts of the object are known.
use Rattle.std.proofs.Common.{◌≡◌, ℕ, suc, ◌-◌, Bool, true, false, List, [], ◌∷◌, Option, Some, None, sym, ap, subst, ◌∙◌}
use Rattle.std.specs.Prelude.{map, slice_get, bytes_eq, if◌then◌else◌}
use Rattle.path_tree.specs.Lexeme.{Lexeme}
use Rattle.path_tree.specs.Known.{value_of}
use Rattle.value_core.specs.declared.kind.Elem.{Elem}
use Rattle.value_core.specs.declared.kind.Elem.TheVariants as elem
use Rattle.value_core.specs.declared.kind.Kind.{Kind}
use Rattle.decl_core.specs.declared.stmt.Relation.{Relation}
use Rattle.decl_core.specs.Form.{From, argument, element, oldest, under, Integers, number, Form, an_integer, a_text, Condition, Statement, Statements}
use Rattle.token_read.specs.Names.{Names, next, found_in}
use Rattle.body_read.specs.Reading.{of_sort, param_named, value_named, combined}
use Rattle.decl_core.specs.Sorts.{queue_sort, table_sort}
use Rattle.body_read.specs.Grammar.{ExprText, terms, MoreText, no_more, and_more as and_more_terms, TermText, a_number, a_string, a_name, an_element as an_element_text, a_first, a_lookup, a_count, in_parens, IsPart, IsExpr, AddsUp, IsTerm, IsExprBefore}
use Rattle.decl_core.specs.Sorts.{sort_of_form}
use Rattle.body_read.specs.Statements.{Compares, integers, equal_texts, different_texts, IsCond, comparison, a_has, a_not, IsStmt, no_statement, a_block, an_element, a_result, an_append, a_take, a_store, an_erase, an_if, an_if_else, a_refuse, IsStmts, last, and_more}
use Rattle.decl_core.specs.Typed.{Types, IsHeld, HoldsSort, IsTableAt, IsQueueAt, FromTyped, IntegersTyped, FormTyped, ConditionTyped, StatementTyped, StatementsTyped}
use Rattle.body_read.specs.DeclaredTypes.{reply_sort, all_known}
use Rattle.token_read.proofs.Exact.{bind_some}

pair_is : {A : Type 0} (x y : ℕ × A) → Some x ≡ Some y → (x.0 ≡ y.0) × (x.1 ≡ y.1)
pair_is x y h = let k : x ≡ y = cc in (ap (λ p. p.0) k, ap (λ p. p.1) k)

-- the place of a name, one place further
next_is : {A : Type 0} (o : Option (ℕ × A)) (p : ℕ) (a : A) → next o ≡ Some (p, a) → (q : ℕ) × (o ≡ Some (q, a)) × (p ≡ suc q)
next_is (Some x) p a h =
    let k = pair_is (suc x.0, x.1) (p, a) h in
    (x.0, ap (λ b. Some (x.0, b)) k.1, sym k.0)
next_is None p a h = absurd cc

module _ {A B : Type 0} (f : A → B) where
  -- what is found by its name stands at its place
  abbrev Got : List (List ℕ × A) → List ℕ → Type 0
  Got xs bytes = (p : ℕ) (a : A) → found_in xs bytes ≡ Some (p, a) → slice_get (map (λ y. f y.1) xs) p ≡ Some (f a)

  got_by : (same : Bool) (x : List ℕ × A) (xs : List (List ℕ × A)) (bytes : List ℕ) → Got xs bytes → (p : ℕ) (a : A) → (if same then Some (0, x.1) else next (found_in xs bytes)) ≡ Some (p, a) → slice_get (map (λ y. f y.1) (x ∷ xs)) p ≡ Some (f a)
  got_by true x xs bytes others p a h = let k = pair_is (0, x.1) (p, a) h in subst (λ q. slice_get (map (λ y. f y.1) (x ∷ xs)) q ≡ Some (f a)) k.0 (ap (λ b. Some (f b)) k.1)
  got_by false x xs bytes others p a h = let n = next_is (found_in xs bytes) p a h in subst (λ q. slice_get (map (λ y. f y.1) (x ∷ xs)) q ≡ Some (f a)) (sym n.2) (others n.0 a n.1)

  got : (xs : List (List ℕ × A)) (bytes : List ℕ) → Got xs bytes
  got [] bytes p a h = absurd cc
  got (x ∷ xs) bytes p a h = got_by (bytes_eq x.0 bytes) x xs bytes (got xs bytes) p a h

of_sort_typed : (t : Types) (sort : Elem) (s : From) → FromTyped t sort s → FormTyped t (of_sort sort s)
of_sort_typed t elem.Integer s h = h
of_sort_typed t elem.Text s h = h

combined_typed : (t : Types) (plus : Bool) (f g : Integers) → IntegersTyped t f → IntegersTyped t g → IntegersTyped t (combined plus f g)
combined_typed t true f g a b = (a, b)
combined_typed t false f g a b = (a, b)

module _ (names : Names) where
  part_held : {bytes : List ℕ} {sort_by : Kind → Option Elem} {p : ℕ} {sort : Elem} → IsPart names bytes sort_by p sort → HoldsSort (all_known names).kinds sort_by p sort
  part_held {bytes = bytes} {p = p} part = record { kind = part.kind; held = got Some names.parts bytes p part.kind part.found; fits = part.fits }

  value_typed : (bytes : List ℕ) (o : Option ℕ) (x : Form) → value_named names bytes o ≡ Some x → FormTyped (all_known names) x
  unfolding value_named param_named
  value_typed bytes (Some n) x h = let e : an_integer (number n) ≡ x = cc in subst (FormTyped (all_known names)) e tt
  value_typed bytes None x h =
      let q = bind_some (found_in names.params bytes) (λ p. Some (of_sort p.1 (argument p.0))) x h in
      let e : of_sort q.0.1 (argument q.0.0) ≡ x = cc in
      subst (FormTyped (all_known names)) e (of_sort_typed (all_known names) q.0.1 (argument q.0.0) (got (λ s. s) names.params bytes q.0.0 q.0.1 q.1))

  mutual
    expr_typed : (e : ExprText) (depth : ℕ) (x : Form) → IsExpr names depth e x → FormTyped (all_known names) x
    expr_typed (terms t no_more) depth x h = term_typed t depth x h
    expr_typed (terms t (and_more_terms plus u m)) depth x h =
        subst (FormTyped (all_known names)) (sym h.4) (sum_typed (and_more_terms plus u m) depth h.0 h.1 (term_typed t depth (an_integer h.0) h.2) h.3)

    sum_typed : (m : MoreText) (depth : ℕ) (sum y : Integers) → IntegersTyped (all_known names) sum → AddsUp names depth m sum y → IntegersTyped (all_known names) y
    sum_typed no_more depth sum y so_far h = subst (IntegersTyped (all_known names)) (sym h) so_far
    sum_typed (and_more_terms plus t m) depth sum y so_far h =
        sum_typed m depth (combined plus sum h.0) y (combined_typed (all_known names) plus sum h.0 so_far (term_typed t depth (an_integer h.0) h.1)) h.2

    term_typed : (t : TermText) (depth : ℕ) (x : Form) → IsTerm names depth t x → FormTyped (all_known names) x
    term_typed (a_number n) depth x h = subst (FormTyped (all_known names)) (sym h) tt
    term_typed (a_string bytes) depth x h = subst (FormTyped (all_known names)) (sym h.1) h.0
    term_typed (a_name bytes) depth x h = value_typed bytes (value_of names.constants bytes) x h
    term_typed (an_element_text bytes e) depth x h =
        subst (FormTyped (all_known names)) (sym h.6) (of_sort_typed (all_known names) h.1 (element h.0 h.2) (part_held h.3, expr_typed e (depth - 1) (an_integer h.2) h.5))
    term_typed (a_first bytes) depth x h = subst (FormTyped (all_known names)) (sym h.4) (of_sort_typed (all_known names) h.1 (oldest h.0) (part_held h.2))
    term_typed (a_lookup bytes e) depth x h =
        subst (FormTyped (all_known names)) (sym h.6) (of_sort_typed (all_known names) h.1 (under h.0 h.2) (part_held h.3, expr_typed e (depth - 1) (a_text h.2) h.5))
    term_typed (a_count bytes) depth x h =
        let held : IsHeld (all_known names).kinds h.0 = record { kind = h.1; held = got Some names.parts bytes h.0 h.1 h.2 } in
        subst (FormTyped (all_known names)) (sym h.4) held
    term_typed (in_parens e) depth x h = expr_typed e (depth - 1) x h.1

  before_typed : {depth : ℕ} {ws rest : List Lexeme} {x : Form} → IsExprBefore names depth ws x rest → FormTyped (all_known names) x
  before_typed {depth = depth} {x = x} e = expr_typed e.text depth x e.is

  compared_typed : (r : Relation) (x y : Form) (c : Condition) → Compares r x y c → FormTyped (all_known names) x → FormTyped (all_known names) y → ConditionTyped (all_known names) c
  compared_typed r x y c integers a b = (a, b)
  compared_typed r x y c equal_texts a b = (a, b)
  compared_typed r x y c different_texts a b = (a, b)

  table_held : {bytes : List ℕ} {p : ℕ} {sort : Elem} → IsPart names bytes table_sort p sort → IsTableAt (all_known names).kinds p
  table_held {sort = sort} part = record { sort = sort; table = part_held part }

  queue_held : {bytes : List ℕ} {p : ℕ} {sort : Elem} → IsPart names bytes queue_sort p sort → IsQueueAt (all_known names).kinds p
  queue_held {sort = sort} part = record { sort = sort; queue = part_held part }

  -- a part whose elements are of the sort of an expression
  fitting : {bytes : List ℕ} {sort_by : Kind → Option Elem} {p : ℕ} {sort : Elem} (x : Form) → IsPart names bytes sort_by p sort → sort_of_form x ≡ sort → HoldsSort (all_known names).kinds sort_by p (sort_of_form x)
  fitting {sort_by = sort_by} {p = p} x part e = subst (λ s. HoldsSort (all_known names).kinds sort_by p s) (sym e) (part_held part)

  cond_typed : (depth : ℕ) (ws : List Lexeme) (c : Condition) (rest : List Lexeme) → IsCond names depth ws c rest → ConditionTyped (all_known names) c
  cond_typed depth ws c rest (comparison {x = x} {y = y} {r = r} a s b compares) = compared_typed r x y c compares (before_typed a) (before_typed b)
  cond_typed (suc depth) ws c rest (a_has {p = p} {k = k} part key) = (table_held part, before_typed key)
  cond_typed (suc depth) ws c rest (a_not {ws = vs} {c = d} one) = cond_typed depth vs d rest one

  mutual
    stmt_typed : (depth : ℕ) (ws : List Lexeme) (s : Statement) (rest : List Lexeme) → IsStmt names depth ws s rest → StatementTyped (all_known names) s
    stmt_typed depth ws s rest no_statement = tt
    stmt_typed (suc depth) ws s rest (a_block {ws = vs} {all = all} one) = whole_typed depth vs all rest one
    stmt_typed depth ws s rest (an_element {x = x} part i e same) = (fitting x part same, before_typed i, before_typed e)
    stmt_typed depth ws s rest (a_result {x = x} is e same) = (ap reply_sort is ∙ ap Some (sym same), before_typed e)
    stmt_typed depth ws s rest (an_append {x = x} part e same) = (fitting x part same, before_typed e)
    stmt_typed depth ws s rest (a_take part) = queue_held part
    stmt_typed depth ws s rest (a_store {x = x} part k e same) = (fitting x part same, before_typed k, before_typed e)
    stmt_typed depth ws s rest (an_erase part k) = (table_held part, before_typed k)
    stmt_typed (suc depth) ws s rest (an_if {ws = us} {vs = vs} {c = c} {s = a} test one none) = (cond_typed 32 us c _ test, stmt_typed depth vs a rest one, tt)
    stmt_typed (suc depth) ws s rest (an_if_else {ws = us} {vs = vs} {us = zs} {c = c} {s = a} {t = b} test one other) = (cond_typed 32 us c _ test, stmt_typed depth vs a _ one, stmt_typed depth zs b rest other)
    stmt_typed depth ws s rest (a_refuse word) = word

    -- the statements of the grammar are well typed where all parts are known
    pub whole_typed : (depth : ℕ) (ws : List Lexeme) (all : Statements) (rest : List Lexeme) → IsStmts names depth ws all rest → StatementsTyped (all_known names) all
    whole_typed depth ws all rest (last {s = s} one) = (stmt_typed depth ws s _ one, tt)
    whole_typed depth ws all rest (and_more {vs = vs} {s = s} {all = others} one more) = (stmt_typed depth ws s _ one, whole_typed depth vs others rest more)
