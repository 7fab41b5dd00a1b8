-- Which bodies are well typed: each part that they use is known and holds what they ask of it, and each expression is
-- of the sort that is due.
use Rattle.std.specs.Prelude.{◌≡◌, ℕ, List, slice_get, Option, Some}
use Rattle.value_core.specs.declared.kind.Elem.{Elem}
use Rattle.value_core.specs.declared.kind.Elem.TheVariants as elem
use Rattle.value_core.specs.declared.kind.Kind.{Kind}
use Rattle.value_core.specs.Plain.{IsText}
use Rattle.decl_core.specs.RefusalWord.{IsRefusalWord}
use Rattle.decl_core.specs.Form.{From, argument, element, oldest, under, Integers, number, integer_from, count, add}
use Rattle.decl_core.specs.Form.{subtract, Texts, literal, text_from, Form, an_integer, a_text, Condition, compare}
use Rattle.decl_core.specs.Form.{same_texts, other_texts, has, is_not, Statement, block, set_element, set_result}
use Rattle.decl_core.specs.Form.{append, take, store, erase, choose, refuse, Statements, nothing, first_and}
use Rattle.decl_core.specs.Sorts.{array_sort, queue_sort, table_sort}
use Rattle.decl_core.specs.Sorts.{sort_of_form}

-- what a body is given: of each part its kind, where it is known; the sorts of its arguments; and which
-- sort it replies, if any
pub record Types : Type 0 where
  pub kinds : List (Option Kind)
  pub params : List Elem
  pub result : Option Elem

-- the kind of this part is known
pub record IsHeld (kinds : List (Option Kind)) (p : ℕ) : Type 0 where
  pub kind : Kind
  pub held : slice_get kinds p ≡ Some (Some kind)

-- this part is an array, a queue or a table, by which sort is asked for, and its elements are of this sort
pub record HoldsSort (kinds : List (Option Kind)) (sort_by : Kind → Option Elem) (p : ℕ) (sort : Elem) : Type 0 where
  pub kind : Kind
  pub held : slice_get kinds p ≡ Some (Some kind)
  pub fits : sort_by kind ≡ Some sort

-- this part is a table
pub record IsTableAt (kinds : List (Option Kind)) (p : ℕ) : Type 0 where
  pub sort : Elem
  pub table : HoldsSort kinds table_sort p sort

-- this part is a queue
pub record IsQueueAt (kinds : List (Option Kind)) (p : ℕ) : Type 0 where
  pub sort : Elem
  pub queue : HoldsSort kinds queue_sort p sort

abbrev mutual
  -- what is taken from there is of this sort
  pub FromTyped : Types → Elem → From → Type 0
  FromTyped t sort (argument k) = slice_get t.params k ≡ Some sort
  FromTyped t sort (element p i) = HoldsSort t.kinds array_sort p sort × IntegersTyped t i
  FromTyped t sort (oldest p) = HoldsSort t.kinds queue_sort p sort
  FromTyped t sort (under p k) = HoldsSort t.kinds table_sort p sort × TextsTyped t k

  pub IntegersTyped : Types → Integers → Type 0
  IntegersTyped t (number n) = Unit {0}
  IntegersTyped t (integer_from s) = FromTyped t elem.Integer s
  IntegersTyped t (count p) = IsHeld t.kinds p
  IntegersTyped t (add a b) = IntegersTyped t a × IntegersTyped t b
  IntegersTyped t (subtract a b) = IntegersTyped t a × IntegersTyped t b

  pub TextsTyped : Types → Texts → Type 0
  TextsTyped t (literal bytes) = IsText bytes
  TextsTyped t (text_from s) = FromTyped t elem.Text s

abbrev pub FormTyped : Types → Form → Type 0
FormTyped t (an_integer e) = IntegersTyped t e
FormTyped t (a_text e) = TextsTyped t e

abbrev pub ConditionTyped : Types → Condition → Type 0
ConditionTyped t (compare r a b) = IntegersTyped t a × IntegersTyped t b
ConditionTyped t (same_texts a b) = TextsTyped t a × TextsTyped t b
ConditionTyped t (other_texts a b) = TextsTyped t a × TextsTyped t b
ConditionTyped t (has p k) = IsTableAt t.kinds p × TextsTyped t k
ConditionTyped t (is_not c) = ConditionTyped t c

abbrev mutual
  pub StatementTyped : Types → Statement → Type 0
  StatementTyped t (block all) = StatementsTyped t all
  StatementTyped t (set_element p i x) =
      HoldsSort t.kinds array_sort p (sort_of_form x) × IntegersTyped t i × FormTyped t x
  StatementTyped t (set_result x) = (t.result ≡ Some (sort_of_form x)) × FormTyped t x
  StatementTyped t (append p x) = HoldsSort t.kinds queue_sort p (sort_of_form x) × FormTyped t x
  StatementTyped t (take p) = IsQueueAt t.kinds p
  StatementTyped t (store p k x) = HoldsSort t.kinds table_sort p (sort_of_form x) × TextsTyped t k × FormTyped t x
  StatementTyped t (erase p k) = IsTableAt t.kinds p × TextsTyped t k
  StatementTyped t (choose c s u) = ConditionTyped t c × StatementTyped t s × StatementTyped t u
  StatementTyped t (refuse w) = IsRefusalWord w

  pub StatementsTyped : Types → Statements → Type 0
  StatementsTyped t nothing = Unit {0}
  StatementsTyped t (first_and s rest) = StatementTyped t s × StatementsTyped t rest

-- these statements are well typed with these kinds of parts, sorts of parameters and sort of the reply
abbrev pub IsWellTyped : List (Option Kind) → List Elem → Option Elem → Statements → Type 0
IsWellTyped kinds params result all = StatementsTyped (record { kinds = kinds; params = params; result = result }) all
