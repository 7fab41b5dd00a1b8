-- Which parts an operation names and which it changes, as bits: bit p stands for part p.
use Rattle.std.specs.Prelude.{ℕ, ◌^◌, bit_or}
use Rattle.decl_core.specs.Form.{From, argument, element, oldest, under, Integers, number, integer_from, count, add}
use Rattle.decl_core.specs.Form.{subtract, Texts, literal, text_from, Form, an_integer, a_text, Condition, compare}
use Rattle.decl_core.specs.Form.{same_texts, other_texts, has, is_not, Statement, block, set_element, set_result}
use Rattle.decl_core.specs.Form.{append, take, store, erase, choose, refuse, Statements, nothing, first_and, Body}

-- a part, besides those so far
abbrev pub with_part : ℕ → ℕ → ℕ
with_part p so_far = bit_or so_far (2 ^ p)

-- the parts that a text names, besides those so far
abbrev mutual
  pub named_from : From → ℕ → ℕ
  named_from (argument k) so_far = so_far
  named_from (element p i) so_far = named_in_integers i (with_part p so_far)
  named_from (oldest p) so_far = with_part p so_far
  named_from (under p k) so_far = named_in_texts k (with_part p so_far)

  pub named_in_integers : Integers → ℕ → ℕ
  named_in_integers (number n) so_far = so_far
  named_in_integers (integer_from s) so_far = named_from s so_far
  named_in_integers (count p) so_far = with_part p so_far
  named_in_integers (add a b) so_far = named_in_integers b (named_in_integers a so_far)
  named_in_integers (subtract a b) so_far = named_in_integers b (named_in_integers a so_far)

  pub named_in_texts : Texts → ℕ → ℕ
  named_in_texts (literal t) so_far = so_far
  named_in_texts (text_from s) so_far = named_from s so_far

abbrev pub named_in : Form → ℕ → ℕ
named_in (an_integer e) so_far = named_in_integers e so_far
named_in (a_text e) so_far = named_in_texts e so_far

abbrev pub named_in_condition : Condition → ℕ → ℕ
named_in_condition (compare r a b) so_far = named_in_integers b (named_in_integers a so_far)
named_in_condition (same_texts a b) so_far = named_in_texts b (named_in_texts a so_far)
named_in_condition (other_texts a b) so_far = named_in_texts b (named_in_texts a so_far)
named_in_condition (has p k) so_far = named_in_texts k (with_part p so_far)
named_in_condition (is_not c) so_far = named_in_condition c so_far

abbrev mutual
  pub named_in_statement : Statement → ℕ → ℕ
  named_in_statement (block all) so_far = named_in_all all so_far
  named_in_statement (set_element p i e) so_far = named_in e (named_in_integers i (with_part p so_far))
  named_in_statement (set_result e) so_far = named_in e so_far
  named_in_statement (append p e) so_far = named_in e (with_part p so_far)
  named_in_statement (take p) so_far = with_part p so_far
  named_in_statement (store p k e) so_far = named_in e (named_in_texts k (with_part p so_far))
  named_in_statement (erase p k) so_far = named_in_texts k (with_part p so_far)
  named_in_statement (choose c s t) so_far = named_in_statement t (named_in_statement s (named_in_condition c so_far))
  named_in_statement (refuse w) so_far = so_far

  pub named_in_all : Statements → ℕ → ℕ
  named_in_all nothing so_far = so_far
  named_in_all (first_and s rest) so_far = named_in_all rest (named_in_statement s so_far)

-- the parts that a statement changes, besides those so far
abbrev mutual
  pub changed_by_statement : Statement → ℕ → ℕ
  changed_by_statement (block all) so_far = changed_by_all all so_far
  changed_by_statement (set_element p i e) so_far = with_part p so_far
  changed_by_statement (set_result e) so_far = so_far
  changed_by_statement (append p e) so_far = with_part p so_far
  changed_by_statement (take p) so_far = with_part p so_far
  changed_by_statement (store p k e) so_far = with_part p so_far
  changed_by_statement (erase p k) so_far = with_part p so_far
  changed_by_statement (choose c s t) so_far = changed_by_statement t (changed_by_statement s so_far)
  changed_by_statement (refuse w) so_far = so_far

  pub changed_by_all : Statements → ℕ → ℕ
  changed_by_all nothing so_far = so_far
  changed_by_all (first_and s rest) so_far = changed_by_all rest (changed_by_statement s so_far)

-- The reads of an operation are the parts that its text names.
abbrev pub reads_of : Body → ℕ
reads_of body = named_in_all body.statements 0

-- The writes of an operation are the parts that a statement of it changes.
abbrev pub writes_of : Body → ℕ
writes_of body = changed_by_all body.statements 0
