-- The kind of each part that a well typed body reads is known.
use Rattle.std.proofs.Common.{◌≡◌, ℕ, ⊎_elim, sym, subst}
use Rattle.value_core.specs.declared.kind.Elem.{Elem}
use Rattle.value_core.specs.declared.kind.Elem.TheVariants as elem
use Rattle.value_core.specs.declared.kind.Kind.{Kind}
use Rattle.std.specs.Prelude.{Option}
use Rattle.decl_core.specs.declared.object.Operation.{Operation}
use Rattle.decl_core.specs.Form.{From, argument, element, oldest, under, Integers, number, integer_from, count, add, subtract, Texts, literal, text_from, Form, an_integer, a_text, Condition, compare, same_texts, other_texts, has, is_not, Statement, block, set_element, set_result, append, take, store, erase, choose, refuse, Statements, nothing, first_and}
use Rattle.decl_core.specs.Touched.{FromNames, IntegersName, TextsName, FormNames, ConditionNames, StatementNames, Reads}
use Rattle.decl_core.specs.Typed.{Types, IsHeld, HoldsSort, FromTyped, IntegersTyped, TextsTyped, FormTyped, ConditionTyped, StatementTyped, StatementsTyped}
use Rattle.decl_core.specs.Bodies.{body_of}

module _ (t : Types) (p : ℕ) where
  -- a part that holds a sort is held
  at : (sort_by : Kind → Option Elem) (sort : Elem) (q : ℕ) → HoldsSort t.kinds sort_by q sort → p ≡ q → IsHeld t.kinds p
  at sort_by sort q h e = subst (IsHeld t.kinds) (sym e) (record { kind = h.kind; held = h.held })

  mutual
    from_held : (sort : Elem) (s : From) → FromTyped t sort s → FromNames s p → IsHeld t.kinds p
    from_held sort (argument k) h n = absurd n
    from_held sort (element q i) h n = ⊎_elim (at _ sort q h.0) (integers_held i h.1) n
    from_held sort (oldest q) h n = at _ sort q h n
    from_held sort (under q k) h n = ⊎_elim (at _ sort q h.0) (texts_held k h.1) n

    integers_held : (e : Integers) → IntegersTyped t e → IntegersName e p → IsHeld t.kinds p
    integers_held (number k) h n = absurd n
    integers_held (integer_from s) h n = from_held elem.Integer s h n
    integers_held (count q) h n = subst (IsHeld t.kinds) (sym n) h
    integers_held (add a b) h n = ⊎_elim (integers_held a h.0) (integers_held b h.1) n
    integers_held (subtract a b) h n = ⊎_elim (integers_held a h.0) (integers_held b h.1) n

    texts_held : (e : Texts) → TextsTyped t e → TextsName e p → IsHeld t.kinds p
    texts_held (literal bytes) h n = absurd n
    texts_held (text_from s) h n = from_held elem.Text s h n

  form_held : (x : Form) → FormTyped t x → FormNames x p → IsHeld t.kinds p
  form_held (an_integer e) h n = integers_held e h n
  form_held (a_text e) h n = texts_held e h n

  condition_held : (c : Condition) → ConditionTyped t c → ConditionNames c p → IsHeld t.kinds p
  condition_held (compare r a b) h n = ⊎_elim (integers_held a h.0) (integers_held b h.1) n
  condition_held (same_texts a b) h n = ⊎_elim (texts_held a h.0) (texts_held b h.1) n
  condition_held (other_texts a b) h n = ⊎_elim (texts_held a h.0) (texts_held b h.1) n
  condition_held (has q k) h n = ⊎_elim (at _ h.0.sort q h.0.table) (texts_held k h.1) n
  condition_held (is_not c) h n = condition_held c h n

  mutual
    statement_held : (s : Statement) → StatementTyped t s → StatementNames s p → IsHeld t.kinds p
    statement_held (block all) h n = all_held all h n
    statement_held (set_element q i x) h n = ⊎_elim (at _ _ q h.0) (⊎_elim (integers_held i h.1) (form_held x h.2)) n
    statement_held (set_result x) h n = form_held x h.1 n
    statement_held (append q x) h n = ⊎_elim (at _ _ q h.0) (form_held x h.1) n
    statement_held (take q) h n = at _ h.sort q h.queue n
    statement_held (store q k x) h n = ⊎_elim (at _ _ q h.0) (⊎_elim (texts_held k h.1) (form_held x h.2)) n
    statement_held (erase q k) h n = ⊎_elim (at _ h.0.sort q h.0.table) (texts_held k h.1) n
    statement_held (choose c s u) h n = ⊎_elim (condition_held c h.0) (⊎_elim (statement_held s h.1) (statement_held u h.2)) n
    statement_held (refuse w) h n = absurd n

    all_held : (all : Statements) → StatementsTyped t all → Reads all p → IsHeld t.kinds p
    all_held nothing h n = absurd n
    all_held (first_and s rest) h n = ⊎_elim (statement_held s h.0) (all_held rest h.1) n

-- the kind of each part that an operation reads is known
pub reads_held : (operation : Operation) (p : ℕ) → Reads (body_of operation).statements p → IsHeld operation.kinds.items p
reads_held operation p h = all_held _ p (body_of operation).statements operation.typed h
