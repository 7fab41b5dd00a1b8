-- What is well typed by the kinds that an operation knows fits the parts that it reads.
use Rattle.std.proofs.Common.{◌≡◌, ℕ, List, Option, Some, option_map, slice_get, map, inl, inr, refl, sym, ap, ◌∙◌, subst}
use Rattle.std.proofs.lemmas.Option.{slice_get_within, get_or_from_slice_get, slice_get-map}
use Rattle.value_core.specs.declared.kind.Elem.{Elem}
use Rattle.value_core.specs.declared.kind.Elem.TheVariants as elem
use Rattle.value_core.specs.declared.kind.Kind.{Kind}
use Rattle.value_core.specs.declared.kind.Kind.TheVariants as kind
use Rattle.value_core.specs.Contents.{Contents, kind_of}
use Rattle.value_core.specs.Kinds.{sort_of, IsArray, IsQueue, IsTable}
use Rattle.decl_core.specs.declared.object.Operation.{Operation}
use Rattle.decl_core.specs.Bodies.{body_of}
use Rattle.decl_core.specs.Form.{From, argument, element, oldest, under, Integers, number, integer_from, count, add, subtract, Texts, literal, text_from, Form, an_integer, a_text, Condition, compare, same_texts, other_texts, has, is_not, Statement, block, set_element, set_result, append, take, store, erase, choose, refuse, Statements, nothing, first_and}
use Rattle.decl_core.specs.Sorts.{array_sort, queue_sort, table_sort}
use Rattle.decl_core.specs.Touched.{FromNames, IntegersName, TextsName, FormNames, ConditionNames, StatementNames, Reads}
use Rattle.decl_core.specs.Typed.{Types, HoldsSort, FromTyped, IntegersTyped, TextsTyped, FormTyped, ConditionTyped, StatementTyped, StatementsTyped}
use Rattle.apply_core.specs.Fits.{HoldsReads}
use Rattle.apply_core.specs.Fitting.{IsAt, IsAtOf, FromFits, IntegersFit, TextsFit, FormFits, ConditionFits, StatementFits, StatementsFit}

-- each part of these whose kind is known is there, and is of that kind
abbrev AreHere : List (Option Kind) → List Kind → (ℕ → Type 0) → Type 0
AreHere known kinds Named = (p : ℕ) (k : Kind) → Named p → slice_get known p ≡ Some (Some k) → slice_get kinds p ≡ Some k

at : (kinds : List Kind) (Fits : Kind → Type 0) (p : ℕ) (k : Kind) → slice_get kinds p ≡ Some k → Fits k → IsAt kinds Fits p
at kinds Fits p k here fits = record {
  there = slice_get_within kinds p k here;
  fits = subst Fits (sym (get_or_from_slice_get kinds p k (kind.Array 0 elem.Integer) here)) fits;
}

-- a kind that is asked for, and the sort of its elements
abbrev Asks : (Kind → Option Elem) → (Kind → Type 0) → Type 0
Asks sort_by Fits = (k : Kind) (sort : Elem) → sort_by k ≡ Some sort → Fits k × (sort_of k ≡ sort)

of_array : Asks array_sort IsArray
of_array (kind.Array n e) sort is = (tt, cc)
of_array (kind.Queue e) sort is = absurd cc
of_array (kind.Table e) sort is = absurd cc

of_queue : Asks queue_sort IsQueue
of_queue (kind.Array n e) sort is = absurd cc
of_queue (kind.Queue e) sort is = (tt, cc)
of_queue (kind.Table e) sort is = absurd cc

of_table : Asks table_sort IsTable
of_table (kind.Array n e) sort is = absurd cc
of_table (kind.Queue e) sort is = absurd cc
of_table (kind.Table e) sort is = (tt, cc)

at_of : (known : List (Option Kind)) (kinds : List Kind) (sort_by : Kind → Option Elem) (Fits : Kind → Type 0) (p : ℕ) (sort : Elem) → Asks sort_by Fits → ((k : Kind) → slice_get known p ≡ Some (Some k) → slice_get kinds p ≡ Some k) → HoldsSort known sort_by p sort → IsAtOf kinds Fits p sort
at_of known kinds sort_by Fits p sort asks here held =
    let there = here held.kind held.held in
    let fits = asks held.kind sort held.fits in
    record {
      at = at kinds Fits p held.kind there fits.0;
      elements = ap sort_of (get_or_from_slice_get kinds p held.kind (kind.Array 0 elem.Integer) there) ∙ fits.1;
    }

mutual
  from_fits : (t : Types) (kinds : List Kind) (sort : Elem) (s : From) → AreHere t.kinds kinds (FromNames s) → FromTyped t sort s → FromFits kinds s
  from_fits t kinds sort (argument k) here h = tt
  from_fits t kinds sort (element q i) here h =
      ((at_of t.kinds kinds array_sort IsArray q sort of_array (λ k. here q k (inl refl)) h.0).at, integers_fit t kinds i (λ p k n. here p k (inr n)) h.1)
  from_fits t kinds sort (oldest q) here h = (at_of t.kinds kinds queue_sort IsQueue q sort of_queue (λ k. here q k refl) h).at
  from_fits t kinds sort (under q k) here h =
      ((at_of t.kinds kinds table_sort IsTable q sort of_table (λ k. here q k (inl refl)) h.0).at, texts_fit t kinds k (λ p k n. here p k (inr n)) h.1)

  integers_fit : (t : Types) (kinds : List Kind) (e : Integers) → AreHere t.kinds kinds (IntegersName e) → IntegersTyped t e → IntegersFit kinds e
  integers_fit t kinds (number n) here h = tt
  integers_fit t kinds (integer_from s) here h = from_fits t kinds elem.Integer s here h
  integers_fit t kinds (count q) here h = slice_get_within kinds q h.kind (here q h.kind refl h.held)
  integers_fit t kinds (add a b) here h = (integers_fit t kinds a (λ p k n. here p k (inl n)) h.0, integers_fit t kinds b (λ p k n. here p k (inr n)) h.1)
  integers_fit t kinds (subtract a b) here h = (integers_fit t kinds a (λ p k n. here p k (inl n)) h.0, integers_fit t kinds b (λ p k n. here p k (inr n)) h.1)

  texts_fit : (t : Types) (kinds : List Kind) (e : Texts) → AreHere t.kinds kinds (TextsName e) → TextsTyped t e → TextsFit kinds e
  texts_fit t kinds (literal bytes) here h = tt
  texts_fit t kinds (text_from s) here h = from_fits t kinds elem.Text s here h

form_fits : (t : Types) (kinds : List Kind) (x : Form) → AreHere t.kinds kinds (FormNames x) → FormTyped t x → FormFits kinds x
form_fits t kinds (an_integer e) here h = integers_fit t kinds e here h
form_fits t kinds (a_text e) here h = texts_fit t kinds e here h

condition_fits : (t : Types) (kinds : List Kind) (c : Condition) → AreHere t.kinds kinds (ConditionNames c) → ConditionTyped t c → ConditionFits kinds c
condition_fits t kinds (compare r a b) here h = (integers_fit t kinds a (λ p k n. here p k (inl n)) h.0, integers_fit t kinds b (λ p k n. here p k (inr n)) h.1)
condition_fits t kinds (same_texts a b) here h = (texts_fit t kinds a (λ p k n. here p k (inl n)) h.0, texts_fit t kinds b (λ p k n. here p k (inr n)) h.1)
condition_fits t kinds (other_texts a b) here h = (texts_fit t kinds a (λ p k n. here p k (inl n)) h.0, texts_fit t kinds b (λ p k n. here p k (inr n)) h.1)
condition_fits t kinds (has q key) here h =
    ((at_of t.kinds kinds table_sort IsTable q h.0.sort of_table (λ k. here q k (inl refl)) h.0.table).at, texts_fit t kinds key (λ p k n. here p k (inr n)) h.1)
condition_fits t kinds (is_not c) here h = condition_fits t kinds c here h

mutual
  statement_fits : (t : Types) (kinds : List Kind) (s : Statement) → AreHere t.kinds kinds (StatementNames s) → StatementTyped t s → StatementFits kinds s
  statement_fits t kinds (block all) here h = statements_fit t kinds all here h
  statement_fits t kinds (set_element q i x) here h =
      (at_of t.kinds kinds array_sort IsArray q _ of_array (λ k. here q k (inl refl)) h.0, integers_fit t kinds i (λ p k n. here p k (inr (inl n))) h.1, form_fits t kinds x (λ p k n. here p k (inr (inr n))) h.2)
  statement_fits t kinds (set_result x) here h = form_fits t kinds x here h.1
  statement_fits t kinds (append q x) here h = (at_of t.kinds kinds queue_sort IsQueue q _ of_queue (λ k. here q k (inl refl)) h.0, form_fits t kinds x (λ p k n. here p k (inr n)) h.1)
  statement_fits t kinds (take q) here h = (at_of t.kinds kinds queue_sort IsQueue q h.sort of_queue (λ k. here q k refl) h.queue).at
  statement_fits t kinds (store q key x) here h =
      (at_of t.kinds kinds table_sort IsTable q _ of_table (λ k. here q k (inl refl)) h.0, texts_fit t kinds key (λ p k n. here p k (inr (inl n))) h.1, form_fits t kinds x (λ p k n. here p k (inr (inr n))) h.2)
  statement_fits t kinds (erase q key) here h =
      ((at_of t.kinds kinds table_sort IsTable q h.0.sort of_table (λ k. here q k (inl refl)) h.0.table).at, texts_fit t kinds key (λ p k n. here p k (inr n)) h.1)
  statement_fits t kinds (choose c s u) here h =
      (condition_fits t kinds c (λ p k n. here p k (inl n)) h.0, statement_fits t kinds s (λ p k n. here p k (inr (inl n))) h.1, statement_fits t kinds u (λ p k n. here p k (inr (inr n))) h.2)
  statement_fits t kinds (refuse w) here h = tt

  statements_fit : (t : Types) (kinds : List Kind) (all : Statements) → AreHere t.kinds kinds (Reads all) → StatementsTyped t all → StatementsFit kinds all
  statements_fit t kinds nothing here h = tt
  statements_fit t kinds (first_and s rest) here h = (statement_fits t kinds s (λ p k n. here p k (inl n)) h.0, statements_fit t kinds rest (λ p k n. here p k (inr n)) h.1)

-- the body of an operation fits the parts, where each that it reads is there and of its kind
pub body_fits : (operation : Operation) (parts : List Contents) → HoldsReads operation parts → StatementsFit (map kind_of parts) (body_of operation).statements
body_fits operation parts held =
    let here : AreHere operation.kinds.items (map kind_of parts) (Reads (body_of operation).statements) =
    λ p k named known.
    let at = held p k (record { named = named; held = known }) in
    slice_get-map kind_of parts p ∙ ap (λ found. option_map kind_of found) at.1 ∙ ap Some at.2 in
    statements_fit _ (map kind_of parts) (body_of operation).statements here operation.typed
