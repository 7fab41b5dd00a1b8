-- A body names each part that it uses, so it is well typed where the kinds of those parts alone are known.
use Rattle.std.proofs.Common.{◌≡◌, ℕ, zero, suc, ◌+◌, inl, inr, List, [], ◌∷◌, Option, Some, refl, subst, arith}
use Rattle.std.specs.Prelude.{map, slice_get}
use Rattle.path_tree.specs.Lexeme.{Lexeme}
use Rattle.value_core.specs.declared.kind.Elem.{Elem}
use Rattle.value_core.specs.declared.kind.Elem.TheVariants as elem
use Rattle.value_core.specs.declared.kind.Kind.{Kind}
use Rattle.decl_core.specs.Form.{From, argument, element, oldest, under, Integers, number, integer_from, count, add, subtract, Texts, literal, text_from, Form, an_integer, a_text, Condition, compare, same_texts, other_texts, has, is_not, Statement, block, set_element, set_result, append, take, store, erase, choose, refuse, Statements, nothing, first_and}
use Rattle.decl_core.specs.Footprint.{named_in_all}
use Rattle.decl_core.specs.ObjectForm.{kinds_from}
use Rattle.token_read.specs.Names.{Names}
use Rattle.body_read.specs.Statements.{IsStmts}
use Rattle.decl_core.specs.Typed.{IsHeld, HoldsSort, IsTableAt, IsQueueAt, FromTyped, IntegersTyped, TextsTyped, FormTyped, ConditionTyped, StatementTyped, StatementsTyped}
use Rattle.body_read.specs.DeclaredTypes.{all_known, known_of}
use Rattle.decl_core.specs.Touched.{FromNames, IntegersName, TextsName, FormNames, ConditionNames, StatementNames, Reads}
use Rattle.decl_core.proofs.DeclTouched.{Has, reads_bits}
use Rattle.body_read.proofs.Typing.{whole_typed}

-- a part that is named is known
held_from : (reads place : ℕ) (parts : List (List ℕ × Kind)) (p : ℕ) (k : Kind) → slice_get (map (λ y. Some y.1) parts) p ≡ Some (Some k) → Has reads (place + p) → slice_get (kinds_from reads place parts) p ≡ Some (Some k)
held_from reads place [] p k h b = absurd cc
held_from reads place (x ∷ parts) zero k h b =
    let here : place + 0 ≡ place = omega arith in
    let one : Has reads place = subst (Has reads) here b in
    rw one h
held_from reads place (x ∷ parts) (suc p) k h b =
    let next : place + suc p ≡ place + 1 + p = omega arith in
    held_from reads (place + 1) parts p k h (subst (Has reads) next b)

module _ (names : Names) (reads : ℕ) where
  -- each such part is among the reads
  abbrev Within : (ℕ → Type 0) → Type 0
  Within Parts = (p : ℕ) → Parts p → Has reads p

  at : (p : ℕ) (k : Kind) → slice_get (all_known names).kinds p ≡ Some (Some k) → Has reads p → slice_get (known_of reads names).kinds p ≡ Some (Some k)
  at p k h b = let same : p ≡ 0 + p = omega arith in held_from reads 0 names.parts p k h (subst (Has reads) same b)

  is_held : (p : ℕ) → IsHeld (all_known names).kinds p → Has reads p → IsHeld (known_of reads names).kinds p
  is_held p h b = record { kind = h.kind; held = at p h.kind h.held b }

  holds : {sort_by : Kind → Option Elem} {sort : Elem} (p : ℕ) → HoldsSort (all_known names).kinds sort_by p sort → Has reads p → HoldsSort (known_of reads names).kinds sort_by p sort
  holds p h b = record { kind = h.kind; held = at p h.kind h.held b; fits = h.fits }

  is_table : (p : ℕ) → IsTableAt (all_known names).kinds p → Has reads p → IsTableAt (known_of reads names).kinds p
  is_table p h b = record { sort = h.sort; table = holds p h.table b }

  is_queue : (p : ℕ) → IsQueueAt (all_known names).kinds p → Has reads p → IsQueueAt (known_of reads names).kinds p
  is_queue p h b = record { sort = h.sort; queue = holds p h.queue b }

  mutual
    from_known : (s : From) (sort : Elem) → Within (FromNames s) → FromTyped (all_known names) sort s → FromTyped (known_of reads names) sort s
    from_known (argument k) sort w h = h
    from_known (element p i) sort w h = (holds p h.0 (w p (inl refl)), integers_known i (λ q one. w q (inr one)) h.1)
    from_known (oldest p) sort w h = holds p h (w p refl)
    from_known (under p k) sort w h = (holds p h.0 (w p (inl refl)), texts_known k (λ q one. w q (inr one)) h.1)

    integers_known : (e : Integers) → Within (IntegersName e) → IntegersTyped (all_known names) e → IntegersTyped (known_of reads names) e
    integers_known (number n) w h = tt
    integers_known (integer_from s) w h = from_known s elem.Integer w h
    integers_known (count p) w h = is_held p h (w p refl)
    integers_known (add a b) w h = (integers_known a (λ q one. w q (inl one)) h.0, integers_known b (λ q one. w q (inr one)) h.1)
    integers_known (subtract a b) w h = (integers_known a (λ q one. w q (inl one)) h.0, integers_known b (λ q one. w q (inr one)) h.1)

    texts_known : (e : Texts) → Within (TextsName e) → TextsTyped (all_known names) e → TextsTyped (known_of reads names) e
    texts_known (literal t) w h = h
    texts_known (text_from s) w h = from_known s elem.Text w h

  form_known : (x : Form) → Within (FormNames x) → FormTyped (all_known names) x → FormTyped (known_of reads names) x
  form_known (an_integer e) w h = integers_known e w h
  form_known (a_text e) w h = texts_known e w h

  condition_known : (c : Condition) → Within (ConditionNames c) → ConditionTyped (all_known names) c → ConditionTyped (known_of reads names) c
  condition_known (compare r a b) w h = (integers_known a (λ q one. w q (inl one)) h.0, integers_known b (λ q one. w q (inr one)) h.1)
  condition_known (same_texts a b) w h = (texts_known a (λ q one. w q (inl one)) h.0, texts_known b (λ q one. w q (inr one)) h.1)
  condition_known (other_texts a b) w h = (texts_known a (λ q one. w q (inl one)) h.0, texts_known b (λ q one. w q (inr one)) h.1)
  condition_known (has p k) w h = (is_table p h.0 (w p (inl refl)), texts_known k (λ q one. w q (inr one)) h.1)
  condition_known (is_not c) w h = condition_known c w h

  mutual
    statement_known : (s : Statement) → Within (StatementNames s) → StatementTyped (all_known names) s → StatementTyped (known_of reads names) s
    statement_known (block all) w h = statements_known all w h
    statement_known (set_element p i x) w h = (holds p h.0 (w p (inl refl)), integers_known i (λ q one. w q (inr (inl one))) h.1, form_known x (λ q one. w q (inr (inr one))) h.2)
    statement_known (set_result x) w h = (h.0, form_known x w h.1)
    statement_known (append p x) w h = (holds p h.0 (w p (inl refl)), form_known x (λ q one. w q (inr one)) h.1)
    statement_known (take p) w h = is_queue p h (w p refl)
    statement_known (store p k x) w h = (holds p h.0 (w p (inl refl)), texts_known k (λ q one. w q (inr (inl one))) h.1, form_known x (λ q one. w q (inr (inr one))) h.2)
    statement_known (erase p k) w h = (is_table p h.0 (w p (inl refl)), texts_known k (λ q one. w q (inr one)) h.1)
    statement_known (choose c s t) w h = (condition_known c (λ q one. w q (inl one)) h.0, statement_known s (λ q one. w q (inr (inl one))) h.1, statement_known t (λ q one. w q (inr (inr one))) h.2)
    statement_known (refuse word) w h = h

    statements_known : (all : Statements) → Within (Reads all) → StatementsTyped (all_known names) all → StatementsTyped (known_of reads names) all
    statements_known nothing w h = tt
    statements_known (first_and s rest) w h = (statement_known s (λ q one. w q (inl one)) h.0, statements_known rest (λ q one. w q (inr one)) h.1)

-- Statements of the grammar are well typed where the kinds of the parts that they name are known.
pub statements_typed : (names : Names) (depth : ℕ) (ws : List Lexeme) (all : Statements) (rest : List Lexeme) → IsStmts names depth ws all rest → StatementsTyped (known_of (named_in_all all 0) names) all
statements_typed names depth ws all rest h = statements_known names (named_in_all all 0) all (λ q one. (reads_bits all (named_in_all all 0) refl q).1 one) (whole_typed names depth ws all rest h)
