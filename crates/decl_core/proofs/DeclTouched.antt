-- The bits of a footprint are the parts that an operation reads, and those that it writes.
use Rattle.std.proofs.Common.{◌≡◌, ℕ, ◌^◌, ◌⊎◌, ◌↔◌, inl, inr, ⊎_elim, sym, subst, arith}
use Rattle.std.specs.Int.{bit_at}
use Rattle.std.proofs.lemmas.Bool.Decides.{eqb_tells}
use Rattle.std.proofs.lemmas.Nat.Bits.{bit_at_or, bit_at-zero, bit_at-pow_same, bit_at-pow_other}
use Rattle.decl_core.specs.Form.{From, argument, element, oldest, under, Integers, number, integer_from, count, add, subtract, Texts, literal, text_from, Form, an_integer, a_text, Condition, compare, same_texts, other_texts, has, is_not, Statement, block, set_element, set_result, append, take, store, erase, choose, refuse, Statements, nothing, first_and}
use Rattle.decl_core.specs.Footprint.{with_part, named_from, named_in_integers, named_in_texts, named_in, named_in_condition, named_in_statement, named_in_all, changed_by_statement, changed_by_all}
use Rattle.decl_core.specs.Touched.{FromNames, IntegersName, TextsName, FormNames, ConditionNames, StatementNames, Reads, StatementChanges, Writes}

-- this part is among those whose bits are set
abbrev pub Has : ℕ → ℕ → Type 0
Has bits p = bit_at bits p ≡ 1

-- what holds after is what held before, or this besides
abbrev Adds : Type 0 → Type 0 → Type 0 → Type 0
Adds Before Besides After = After ↔ (Before ⊎ Besides)

nothing_more : {Before : Type 0} → Adds Before ⊥ Before
nothing_more = (inl, ⊎_elim (λ b. b) (λ no. absurd no))

then_more : {Before A Between B After : Type 0} → Adds Before A Between → Adds Between B After → Adds Before (A ⊎ B) After
then_more a b = (
  λ h. ⊎_elim (λ m. ⊎_elim inl (λ x. inr (inl x)) (a.0 m)) (λ y. inr (inr y)) (b.0 h),
  ⊎_elim (λ h. b.1 (inl (a.1 (inl h)))) (⊎_elim (λ x. b.1 (inl (a.1 (inr x)))) (λ y. b.1 (inr y))),
)

-- one part more
put : (p bits : ℕ) → Has (with_part p bits) p
put p bits = omega (arith, bit_at_or bits (2 ^ p) p, bit_at-pow_same p)

with_bits : (q bits p : ℕ) → Adds (Has bits p) (p ≡ q) (Has (with_part q bits) p)
with_bits q bits p = (
  λ h. ⊎_elim (λ is. inr is.1) (λ other. inl (omega (arith, bit_at_or bits (2 ^ q) p, bit_at-pow_other q p other.1))) (eqb_tells p q),
  ⊎_elim (λ h. omega (arith, bit_at_or bits (2 ^ q) p)) (λ e. subst (λ r. Has (with_part r bits) p) e (put p bits)),
)

-- the bits of each text are those before it and the parts that it names
mutual
  from_bits : (s : From) (bits p : ℕ) → Adds (Has bits p) (FromNames s p) (Has (named_from s bits) p)
  from_bits (argument k) bits p = nothing_more
  from_bits (element q i) bits p = then_more (with_bits q bits p) (integers_bits i (with_part q bits) p)
  from_bits (oldest q) bits p = with_bits q bits p
  from_bits (under q k) bits p = then_more (with_bits q bits p) (texts_bits k (with_part q bits) p)

  integers_bits : (e : Integers) (bits p : ℕ) → Adds (Has bits p) (IntegersName e p) (Has (named_in_integers e bits) p)
  integers_bits (number n) bits p = nothing_more
  integers_bits (integer_from s) bits p = from_bits s bits p
  integers_bits (count q) bits p = with_bits q bits p
  integers_bits (add a b) bits p = then_more (integers_bits a bits p) (integers_bits b (named_in_integers a bits) p)
  integers_bits (subtract a b) bits p = then_more (integers_bits a bits p) (integers_bits b (named_in_integers a bits) p)

  texts_bits : (e : Texts) (bits p : ℕ) → Adds (Has bits p) (TextsName e p) (Has (named_in_texts e bits) p)
  texts_bits (literal t) bits p = nothing_more
  texts_bits (text_from s) bits p = from_bits s bits p

form_bits : (x : Form) (bits p : ℕ) → Adds (Has bits p) (FormNames x p) (Has (named_in x bits) p)
form_bits (an_integer e) bits p = integers_bits e bits p
form_bits (a_text e) bits p = texts_bits e bits p

condition_bits : (c : Condition) (bits p : ℕ) → Adds (Has bits p) (ConditionNames c p) (Has (named_in_condition c bits) p)
condition_bits (compare r a b) bits p = then_more (integers_bits a bits p) (integers_bits b (named_in_integers a bits) p)
condition_bits (same_texts a b) bits p = then_more (texts_bits a bits p) (texts_bits b (named_in_texts a bits) p)
condition_bits (other_texts a b) bits p = then_more (texts_bits a bits p) (texts_bits b (named_in_texts a bits) p)
condition_bits (has q k) bits p = then_more (with_bits q bits p) (texts_bits k (with_part q bits) p)
condition_bits (is_not c) bits p = condition_bits c bits p

mutual
  statement_bits : (s : Statement) (bits p : ℕ) → Adds (Has bits p) (StatementNames s p) (Has (named_in_statement s bits) p)
  statement_bits (block all) bits p = all_bits all bits p
  statement_bits (set_element q i x) bits p =
      let first : ℕ = with_part q bits in
      then_more (with_bits q bits p) (then_more (integers_bits i first p) (form_bits x (named_in_integers i first) p))
  statement_bits (set_result x) bits p = form_bits x bits p
  statement_bits (append q x) bits p = then_more (with_bits q bits p) (form_bits x (with_part q bits) p)
  statement_bits (take q) bits p = with_bits q bits p
  statement_bits (store q k x) bits p =
      let first : ℕ = with_part q bits in
      then_more (with_bits q bits p) (then_more (texts_bits k first p) (form_bits x (named_in_texts k first) p))
  statement_bits (erase q k) bits p = then_more (with_bits q bits p) (texts_bits k (with_part q bits) p)
  statement_bits (choose c s t) bits p =
      let first : ℕ = named_in_condition c bits in
      then_more (condition_bits c bits p) (then_more (statement_bits s first p) (statement_bits t (named_in_statement s first) p))
  statement_bits (refuse word) bits p = nothing_more

  all_bits : (all : Statements) (bits p : ℕ) → Adds (Has bits p) (Reads all p) (Has (named_in_all all bits) p)
  all_bits nothing bits p = nothing_more
  all_bits (first_and s rest) bits p = then_more (statement_bits s bits p) (all_bits rest (named_in_statement s bits) p)

-- the bits of each statement are those before it and the parts that it changes
mutual
  change_bits : (s : Statement) (bits p : ℕ) → Adds (Has bits p) (StatementChanges s p) (Has (changed_by_statement s bits) p)
  change_bits (block all) bits p = changes_bits all bits p
  change_bits (set_element q i x) bits p = with_bits q bits p
  change_bits (set_result x) bits p = nothing_more
  change_bits (append q x) bits p = with_bits q bits p
  change_bits (take q) bits p = with_bits q bits p
  change_bits (store q k x) bits p = with_bits q bits p
  change_bits (erase q k) bits p = with_bits q bits p
  change_bits (choose c s t) bits p = then_more (change_bits s bits p) (change_bits t (changed_by_statement s bits) p)
  change_bits (refuse word) bits p = nothing_more

  changes_bits : (all : Statements) (bits p : ℕ) → Adds (Has bits p) (Writes all p) (Has (changed_by_all all bits) p)
  changes_bits nothing bits p = nothing_more
  changes_bits (first_and s rest) bits p = then_more (change_bits s bits p) (changes_bits rest (changed_by_statement s bits) p)

-- from no bits, what is added is all there is
from_none : {Besides : Type 0} (bits p : ℕ) → Adds (Has 0 p) Besides (Has bits p) → Has bits p ↔ Besides
from_none bits p h = (λ b. ⊎_elim (λ z. absurd (omega (arith, bit_at-zero p, z))) (λ x. x) (h.0 b), λ x. h.1 (inr x))

pub reads_bits : (all : Statements) (bits : ℕ) → bits ≡ named_in_all all 0 → (p : ℕ) → Has bits p ↔ Reads all p
reads_bits all bits e p = from_none bits p (subst (λ b. Adds (Has 0 p) (Reads all p) (Has b p)) (sym e) (all_bits all 0 p))

pub writes_bits : (all : Statements) (bits : ℕ) → bits ≡ changed_by_all all 0 → (p : ℕ) → Has bits p ↔ Writes all p
writes_bits all bits e p = from_none bits p (subst (λ b. Adds (Has 0 p) (Writes all p) (Has b p)) (sym e) (changes_bits all 0 p))
