-- Blocks that are compared.
use Rattle.std.proofs.Common.{◌≡◌, ◌<◌, ◌↔◌, ◌==◌, Bool, List, [], ◌∷◌, length, IsTrue, true, false, ⊎_elim, refl, sym, ap, ◌∙◌, Vec, Global, arith}
use Rattle.std.proofs.lemmas.Bool.Decides.{eqb_tells}
use Rattle.decl_core.specs.declared.stmt.Stmt.{Stmt, Block}
use Rattle.decl_core.specs.Form.{Statements, block, nothing}
use Rattle.decl_core.specs.View.{statement_of, all_of}
use Rattle.decl_core.proofs.Rows.{block_is}
use Rattle.decl_core.proofs.Weights.{weight_statement, weight_all}

form_there : (s : Stmt) (all : Vec Stmt Global) (there : List Stmt) → s ≡ Block all → there ≡ all.items → statement_of s ≡ block (all_of there)
form_there s all there is same = ap statement_of is ∙ block_is all ∙ ap (λ l. block (all_of l)) (sym same)

same_inside : (x y : Statements) → block x ≡ block y → x ≡ y
same_inside x y h = cc

pub block_falls : (s : Stmt) (all : Vec Stmt Global) (there : List Stmt) → s ≡ Block all → there ≡ all.items → weight_all (all_of there) < weight_statement (statement_of s)
block_falls s all there is same = let e = ap weight_statement (form_there s all there is same) in omega (arith, e)

pub blocks_same : (a b : Stmt) (all others : Vec Stmt Global) (x y : List Stmt) (r : Bool) → a ≡ Block all → b ≡ Block others → x ≡ all.items → y ≡ others.items →
    IsTrue r ↔ (all_of x ≡ all_of y) → IsTrue r ↔ (statement_of a ≡ statement_of b)
blocks_same a b all others x y r is other same same_other h =
    let p = form_there a all x is same in
    let q = form_there b others y other same_other in
    (λ yes. p ∙ ap block (h.0 yes) ∙ sym q, λ e. h.1 (same_inside _ _ (sym p ∙ e ∙ q)))

no_more : (t : Stmt) (y : List Stmt) → nothing ≡ all_of (t ∷ y) → ⊥
no_more t y e = cc

apart : (r : Bool) → r ≡ true → r ≡ false → ⊥
apart r is other = cc

pub ends_same : {P : Type 0} (x y : List Stmt) (r : Bool) → length x < 1 → r ≡ (length y == 0) → (all_of x ≡ all_of y) ↔ P → IsTrue r ↔ P
ends_same [] [] r few is h = (λ yes. h.0 refl, λ p. is)
ends_same [] (t ∷ y) r few is h =
    let none : IsTrue r → ⊥ = λ yes. ⊎_elim (λ one. absurd (omega (arith, one.1))) (λ other. absurd (apart (length (t ∷ y) == 0) (sym is ∙ yes) other.0)) (eqb_tells (length (t ∷ y)) 0) in
    (λ h. absurd (none h), λ p. absurd (no_more t y (h.1 p)))
ends_same (s ∷ x) y r few is h = absurd (omega (arith, few))
