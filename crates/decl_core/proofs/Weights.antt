-- Numbers that fall from a form to the forms in it.
use Rattle.std.proofs.Common.{ℕ, suc, ◌+◌}
use Rattle.decl_core.specs.Form.{From, argument, element, oldest, under, Integers, number, integer_from, count, add, subtract, Texts, literal, text_from, Statement, block, set_element, set_result, append, take, store, erase, choose, refuse, Statements, nothing, first_and}

abbrev mutual
  pub weight_from : From → ℕ
  weight_from (argument k) = 0
  weight_from (element p i) = suc (suc (weight_integers i))
  weight_from (oldest p) = 0
  weight_from (under p k) = suc (weight_texts k)

  pub weight_integers : Integers → ℕ
  weight_integers (number n) = 0
  weight_integers (integer_from s) = suc (weight_from s)
  weight_integers (count p) = 0
  weight_integers (add a b) = suc (weight_integers a + weight_integers b)
  weight_integers (subtract a b) = suc (weight_integers a + weight_integers b)

  pub weight_texts : Texts → ℕ
  weight_texts (literal t) = 0
  weight_texts (text_from s) = suc (weight_from s)

abbrev mutual
  pub weight_statement : Statement → ℕ
  weight_statement (block all) = suc (weight_all all)
  weight_statement (set_element p i x) = 0
  weight_statement (set_result x) = 0
  weight_statement (append p x) = 0
  weight_statement (take p) = 0
  weight_statement (store p k x) = 0
  weight_statement (erase p k) = 0
  weight_statement (choose c s t) = suc (weight_statement s + weight_statement t)
  weight_statement (refuse w) = 0

  pub weight_all : Statements → ℕ
  weight_all nothing = 0
  weight_all (first_and s rest) = suc (weight_statement s + weight_all rest)
