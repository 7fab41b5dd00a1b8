-- Whether an operation reads a part is decided, and so is whether it writes one.
use Rattle.std.proofs.Common.{ℕ, ◌⊎◌, inl, inr}
use Rattle.std.proofs.lemmas.Bool.{cases_eq}
use Rattle.decl_core.specs.Form.{From, argument, element, oldest, under, Integers, number, integer_from, count, add, subtract, Texts, literal, text_from, Form, an_integer, a_text, Condition, compare, same_texts, other_texts, has, is_not, Statement, block, set_element, set_result, append, take, store, erase, choose, refuse, Statements, nothing, first_and}
use Rattle.decl_core.specs.Touched.{FromNames, IntegersName, TextsName, FormNames, ConditionNames, StatementNames, Reads, StatementChanges, Writes}

-- it holds, or it does not
abbrev pub OrNot : Type 0 → Type 0
OrNot A = A ⊎ (A → ⊥)

never : OrNot ⊥
never = inr (λ h. h)

either : {A B : Type 0} → OrNot A → OrNot B → OrNot (A ⊎ B)
either (inl a) other = inl (inl a)
either (inr not) (inl b) = inl (inr b)
either {A} {B} (inr not) (inr none) = inr (λ h. elim h [ inl a ↦ not a | inr b ↦ none b ])

pub surely : {A : Type 0} → OrNot A → ((A → ⊥) → ⊥) → A
surely (inl a) h = a
surely (inr not) h = absurd (h not)

mutual
  from_or_not : (s : From) (p : ℕ) → OrNot (FromNames s p)
  from_or_not (argument k) p = never
  from_or_not (element q i) p = either (cases_eq p q) (integers_or_not i p)
  from_or_not (oldest q) p = cases_eq p q
  from_or_not (under q k) p = either (cases_eq p q) (texts_or_not k p)

  integers_or_not : (e : Integers) (p : ℕ) → OrNot (IntegersName e p)
  integers_or_not (number n) p = never
  integers_or_not (integer_from s) p = from_or_not s p
  integers_or_not (count q) p = cases_eq p q
  integers_or_not (add a b) p = either (integers_or_not a p) (integers_or_not b p)
  integers_or_not (subtract a b) p = either (integers_or_not a p) (integers_or_not b p)

  texts_or_not : (e : Texts) (p : ℕ) → OrNot (TextsName e p)
  texts_or_not (literal t) p = never
  texts_or_not (text_from s) p = from_or_not s p

form_or_not : (x : Form) (p : ℕ) → OrNot (FormNames x p)
form_or_not (an_integer e) p = integers_or_not e p
form_or_not (a_text e) p = texts_or_not e p

condition_or_not : (c : Condition) (p : ℕ) → OrNot (ConditionNames c p)
condition_or_not (compare r a b) p = either (integers_or_not a p) (integers_or_not b p)
condition_or_not (same_texts a b) p = either (texts_or_not a p) (texts_or_not b p)
condition_or_not (other_texts a b) p = either (texts_or_not a p) (texts_or_not b p)
condition_or_not (has q k) p = either (cases_eq p q) (texts_or_not k p)
condition_or_not (is_not c) p = condition_or_not c p

mutual
  named_or_not : (s : Statement) (p : ℕ) → OrNot (StatementNames s p)
  named_or_not (block all) p = read_or_not all p
  named_or_not (set_element q i e) p = either (cases_eq p q) (either (integers_or_not i p) (form_or_not e p))
  named_or_not (set_result e) p = form_or_not e p
  named_or_not (append q e) p = either (cases_eq p q) (form_or_not e p)
  named_or_not (take q) p = cases_eq p q
  named_or_not (store q k e) p = either (cases_eq p q) (either (texts_or_not k p) (form_or_not e p))
  named_or_not (erase q k) p = either (cases_eq p q) (texts_or_not k p)
  named_or_not (choose c s t) p = either (condition_or_not c p) (either (named_or_not s p) (named_or_not t p))
  named_or_not (refuse w) p = never

  read_or_not : (all : Statements) (p : ℕ) → OrNot (Reads all p)
  read_or_not nothing p = never
  read_or_not (first_and s rest) p = either (named_or_not s p) (read_or_not rest p)

mutual
  changed_or_not : (s : Statement) (p : ℕ) → OrNot (StatementChanges s p)
  changed_or_not (block all) p = written_or_not all p
  changed_or_not (set_element q i e) p = cases_eq p q
  changed_or_not (set_result e) p = never
  changed_or_not (append q e) p = cases_eq p q
  changed_or_not (take q) p = cases_eq p q
  changed_or_not (store q k e) p = cases_eq p q
  changed_or_not (erase q k) p = cases_eq p q
  changed_or_not (choose c s t) p = either (changed_or_not s p) (changed_or_not t p)
  changed_or_not (refuse w) p = never

  pub written_or_not : (all : Statements) (p : ℕ) → OrNot (Writes all p)
  written_or_not nothing p = never
  written_or_not (first_and s rest) p = either (changed_or_not s p) (written_or_not rest p)

-- what cannot but be read is read
pub read : (all : Statements) (p : ℕ) → ((Reads all p → ⊥) → ⊥) → Reads all p
read all p h = surely (read_or_not all p) h
