-- Which parts an operation reads and which it writes, and when two operations conflict.
use Rattle.std.specs.Prelude.{◌≡◌, ℕ, ◌⊎◌}
use Rattle.decl_core.specs.Form.{From, argument, element, oldest, under, Integers, number, integer_from, count, add}
use Rattle.decl_core.specs.Form.{subtract, Texts, literal, text_from, Form, an_integer, a_text, Condition, compare}
use Rattle.decl_core.specs.Form.{same_texts, other_texts, has, is_not, Statement, block, set_element, set_result}
use Rattle.decl_core.specs.Form.{append, take, store, erase, choose, refuse, Statements, nothing, first_and}

-- a text names this part
abbrev mutual
  pub FromNames : From → ℕ → Type 0
  FromNames (argument k) p = ⊥
  FromNames (element q i) p = (p ≡ q) ⊎ IntegersName i p
  FromNames (oldest q) p = p ≡ q
  FromNames (under q k) p = (p ≡ q) ⊎ TextsName k p

  pub IntegersName : Integers → ℕ → Type 0
  IntegersName (number n) p = ⊥
  IntegersName (integer_from s) p = FromNames s p
  IntegersName (count q) p = p ≡ q
  IntegersName (add a b) p = IntegersName a p ⊎ IntegersName b p
  IntegersName (subtract a b) p = IntegersName a p ⊎ IntegersName b p

  pub TextsName : Texts → ℕ → Type 0
  TextsName (literal t) p = ⊥
  TextsName (text_from s) p = FromNames s p

abbrev pub FormNames : Form → ℕ → Type 0
FormNames (an_integer e) p = IntegersName e p
FormNames (a_text e) p = TextsName e p

abbrev pub ConditionNames : Condition → ℕ → Type 0
ConditionNames (compare r a b) p = IntegersName a p ⊎ IntegersName b p
ConditionNames (same_texts a b) p = TextsName a p ⊎ TextsName b p
ConditionNames (other_texts a b) p = TextsName a p ⊎ TextsName b p
ConditionNames (has q k) p = (p ≡ q) ⊎ TextsName k p
ConditionNames (is_not c) p = ConditionNames c p

abbrev mutual
  pub StatementNames : Statement → ℕ → Type 0
  StatementNames (block all) p = Reads all p
  StatementNames (set_element q i e) p = (p ≡ q) ⊎ (IntegersName i p ⊎ FormNames e p)
  StatementNames (set_result e) p = FormNames e p
  StatementNames (append q e) p = (p ≡ q) ⊎ FormNames e p
  StatementNames (take q) p = p ≡ q
  StatementNames (store q k e) p = (p ≡ q) ⊎ (TextsName k p ⊎ FormNames e p)
  StatementNames (erase q k) p = (p ≡ q) ⊎ TextsName k p
  StatementNames (choose c s t) p = ConditionNames c p ⊎ (StatementNames s p ⊎ StatementNames t p)
  StatementNames (refuse w) p = ⊥

  -- The reads of an operation are the parts that its text names.
  pub Reads : Statements → ℕ → Type 0
  Reads nothing p = ⊥
  Reads (first_and s rest) p = StatementNames s p ⊎ Reads rest p

abbrev mutual
  pub StatementChanges : Statement → ℕ → Type 0
  StatementChanges (block all) p = Writes all p
  StatementChanges (set_element q i e) p = p ≡ q
  StatementChanges (set_result e) p = ⊥
  StatementChanges (append q e) p = p ≡ q
  StatementChanges (take q) p = p ≡ q
  StatementChanges (store q k e) p = p ≡ q
  StatementChanges (erase q k) p = p ≡ q
  StatementChanges (choose c s t) p = StatementChanges s p ⊎ StatementChanges t p
  StatementChanges (refuse w) p = ⊥

  -- The writes of an operation are the parts that a statement of it changes.
  pub Writes : Statements → ℕ → Type 0
  Writes nothing p = ⊥
  Writes (first_and s rest) p = StatementChanges s p ⊎ Writes rest p

-- Two operations conflict at a part where one of them writes it and the other one reads or writes it.
abbrev pub ConflictAt : Statements → Statements → ℕ → Type 0
ConflictAt a b p = (Writes a p × (Reads b p ⊎ Writes b p)) ⊎ (Writes b p × (Reads a p ⊎ Writes a p))

-- Two operations conflict where they do at some part. So one that writes conflicts with itself.
abbrev pub Conflict : Statements → Statements → Type 0
Conflict a b = (p : ℕ) × ConflictAt a b p
