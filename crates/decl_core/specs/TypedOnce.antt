-- That a body is well typed has one proof at most, so an operation can keep it beside its fields.
use Rattle.std.specs.Prelude.{◌≡◌, ℕ, List, slice_get, Option, Some}
use Rattle.std.specs.Coded.{×_prop, Unit-prop}
use Rattle.std.proofs.Common.{sym, ap, subst, ◌∙◌}
use denote.Struct.Props.{props}
use Rattle.value_core.specs.declared.kind.Elem.{Elem}
use Rattle.value_core.specs.declared.kind.Elem.TheVariants as elem
use Rattle.value_core.specs.declared.kind.Kind.{Kind}
use Rattle.value_core.specs.Plain.{IsText}
use Rattle.decl_core.specs.KindOnce.{elem_set, kind_set}
use Rattle.decl_core.specs.RefusalWord.{IsRefusalWord}
use Rattle.decl_core.specs.Form.{From, argument, element, oldest, under, Integers, number, integer_from, count, add}
use Rattle.decl_core.specs.Form.{subtract, Texts, literal, text_from, Form, an_integer, a_text, Condition, compare}
use Rattle.decl_core.specs.Form.{same_texts, other_texts, has, is_not, Statement, block, set_element, set_result}
use Rattle.decl_core.specs.Form.{append, take, store, erase, choose, refuse, Statements, nothing, first_and}
use Rattle.decl_core.specs.Sorts.{array_sort, queue_sort, table_sort}
use Rattle.decl_core.specs.Sorts.{sort_of_form}
use Rattle.decl_core.specs.Typed.{Types, IsHeld, HoldsSort, IsTableAt, IsQueueAt, FromTyped, IntegersTyped, TextsTyped}
use Rattle.decl_core.specs.Typed.{FormTyped, ConditionTyped, StatementTyped, StatementsTyped, IsWellTyped}

sorts_once : (a b : Option Elem) → IsProp (a ≡ b)
sorts_once a b = hlevel (props, elem_set)

holds_once : (a b : Option (Option Kind)) → IsProp (a ≡ b)
holds_once a b = hlevel (props, kind_set)

module _ (kinds : List (Option Kind)) (p : ℕ) where
  same_held : (x : IsHeld kinds p) (kind : Kind) (held : slice_get kinds p ≡ Some (Some kind)) → kind ≡ x.kind →
      record { kind = kind; held = held } ≡ x
  same_held x kind held e =
      let P : Kind → Type 0 = λ k. (h : slice_get kinds p ≡ Some (Some k)) →
      ◌≡◌ {A = IsHeld kinds p} (record { kind = k; held = h }) x in
      subst P (sym e) (λ h. ap (λ g. record { kind = x.kind; held = g }) (holds_once _ _ h x.held)) held

  is_held_once : IsProp (IsHeld kinds p)
  is_held_once x y = let e : x.kind ≡ y.kind = cc in same_held y x.kind x.held e

module _ (kinds : List (Option Kind)) (sort_by : Kind → Option Elem) (p : ℕ) (sort : Elem) where
  same_holds : (x : HoldsSort kinds sort_by p sort) (kind : Kind) (held : slice_get kinds p ≡ Some (Some kind))
      (fits : sort_by kind ≡ Some sort) → kind ≡ x.kind → record { kind = kind; held = held; fits = fits } ≡ x
  same_holds x kind held fits e =
      let P : Kind → Type 0 = λ k. (h : slice_get kinds p ≡ Some (Some k)) (f : sort_by k ≡ Some sort) →
      ◌≡◌ {A = HoldsSort kinds sort_by p sort} (record { kind = k; held = h; fits = f }) x in
      subst P (sym e) (λ h f. ap (λ g. record { kind = x.kind; held = g; fits = f }) (holds_once _ _ h x.held)
      ∙ ap (λ g. record { kind = x.kind; held = x.held; fits = g }) (sorts_once _ _ f x.fits)) held fits

  holds_sort_once : IsProp (HoldsSort kinds sort_by p sort)
  holds_sort_once x y = let e : x.kind ≡ y.kind = cc in same_holds y x.kind x.held x.fits e

module _ (kinds : List (Option Kind)) (p : ℕ) where
  same_table : (x : IsTableAt kinds p) (sort : Elem) (table : HoldsSort kinds table_sort p sort) → sort ≡ x.sort →
      record { sort = sort; table = table } ≡ x
  same_table x sort table e =
      let P : Elem → Type 0 = λ s. (h : HoldsSort kinds table_sort p s) →
      ◌≡◌ {A = IsTableAt kinds p} (record { sort = s; table = h }) x in
      subst P (sym e) (λ h. ap (λ g. record { sort = x.sort; table = g })
      (holds_sort_once kinds table_sort p x.sort h x.table)) table

  table_once : IsProp (IsTableAt kinds p)
  table_once x y =
      let k : x.table.kind ≡ y.table.kind = cc in
      let e : x.sort ≡ y.sort = cc in
      same_table y x.sort x.table e

  same_queue : (x : IsQueueAt kinds p) (sort : Elem) (queue : HoldsSort kinds queue_sort p sort) → sort ≡ x.sort →
      record { sort = sort; queue = queue } ≡ x
  same_queue x sort queue e =
      let P : Elem → Type 0 = λ s. (h : HoldsSort kinds queue_sort p s) →
      ◌≡◌ {A = IsQueueAt kinds p} (record { sort = s; queue = h }) x in
      subst P (sym e) (λ h. ap (λ g. record { sort = x.sort; queue = g })
      (holds_sort_once kinds queue_sort p x.sort h x.queue)) queue

  queue_once : IsProp (IsQueueAt kinds p)
  queue_once x y =
      let k : x.queue.kind ≡ y.queue.kind = cc in
      let e : x.sort ≡ y.sort = cc in
      same_queue y x.sort x.queue e

text_once : (bytes : List ℕ) → IsProp (IsText bytes)
text_once bytes = hlevel props

word_once : (bytes : List ℕ) → IsProp (IsRefusalWord bytes)
word_once bytes = hlevel props

mutual
  from_once : (t : Types) (sort : Elem) (s : From) → IsProp (FromTyped t sort s)
  from_once t sort (argument k) = sorts_once _ _
  from_once t sort (element p i) = ×_prop (holds_sort_once t.kinds array_sort p sort) (integers_once t i)
  from_once t sort (oldest p) = holds_sort_once t.kinds queue_sort p sort
  from_once t sort (under p k) = ×_prop (holds_sort_once t.kinds table_sort p sort) (texts_once t k)

  integers_once : (t : Types) (e : Integers) → IsProp (IntegersTyped t e)
  integers_once t (number n) = Unit-prop
  integers_once t (integer_from s) = from_once t elem.Integer s
  integers_once t (count p) = is_held_once t.kinds p
  integers_once t (add a b) = ×_prop (integers_once t a) (integers_once t b)
  integers_once t (subtract a b) = ×_prop (integers_once t a) (integers_once t b)

  texts_once : (t : Types) (e : Texts) → IsProp (TextsTyped t e)
  texts_once t (literal bytes) = text_once bytes
  texts_once t (text_from s) = from_once t elem.Text s

form_once : (t : Types) (x : Form) → IsProp (FormTyped t x)
form_once t (an_integer e) = integers_once t e
form_once t (a_text e) = texts_once t e

condition_once : (t : Types) (c : Condition) → IsProp (ConditionTyped t c)
condition_once t (compare r a b) = ×_prop (integers_once t a) (integers_once t b)
condition_once t (same_texts a b) = ×_prop (texts_once t a) (texts_once t b)
condition_once t (other_texts a b) = ×_prop (texts_once t a) (texts_once t b)
condition_once t (has p k) = ×_prop (table_once t.kinds p) (texts_once t k)
condition_once t (is_not c) = condition_once t c

mutual
  statement_once : (t : Types) (s : Statement) → IsProp (StatementTyped t s)
  statement_once t (block all) = statements_once t all
  statement_once t (set_element p i x) =
      hlevel (props, holds_sort_once t.kinds array_sort p (sort_of_form x), integers_once t i, form_once t x)
  statement_once t (set_result x) = ×_prop (sorts_once _ _) (form_once t x)
  statement_once t (append p x) = ×_prop (holds_sort_once t.kinds queue_sort p (sort_of_form x)) (form_once t x)
  statement_once t (take p) = queue_once t.kinds p
  statement_once t (store p k x) =
      hlevel (props, holds_sort_once t.kinds table_sort p (sort_of_form x), texts_once t k, form_once t x)
  statement_once t (erase p k) = ×_prop (table_once t.kinds p) (texts_once t k)
  statement_once t (choose c s u) = hlevel (props, condition_once t c, statement_once t s, statement_once t u)
  statement_once t (refuse w) = word_once w

  -- a body is well typed in one way at most
  pub statements_once : (t : Types) (all : Statements) → IsProp (StatementsTyped t all)
  statements_once t nothing = Unit-prop
  statements_once t (first_and s rest) = ×_prop (statement_once t s) (statements_once t rest)

pub well_typed_once : (kinds : List (Option Kind)) (params : List Elem) (result : Option Elem) (all : Statements) →
    IsProp (IsWellTyped kinds params result all)
well_typed_once kinds params result all =
    statements_once (record { kinds = kinds; params = params; result = result }) all
