-- What stands in front, where something was read, and what was tested.
use Rattle.std.proofs.Common.{◌≡◌, ℕ, ◌<◌, ◌≤◌, Bool, true, false, List, [], ◌∷◌, Option, Some, None, nat_lt, nat_le, ◌&&◌, ◌||◌, not, is_some, refl, sym, ap, subst, ◌∙◌, arith}
use Rattle.std.proofs.lemmas.Bool.Decides.{nat_tests}
use Rattle.path_tree.specs.Lexeme.{Lexeme, symbol, number as number_lexeme, identifier, string, end_mark}
use Rattle.token_read.specs.Names.{name_at}
use Rattle.decl_parts.specs.DeclarationReading.{provided, number_at}
use Rattle.token_read.proofs.Exact.{read_is}

pub name_front : (ws : List Lexeme) (q : List ℕ × List Lexeme) → name_at ws ≡ Some q → ws ≡ identifier q.0 ∷ q.1
name_front [] q h = absurd cc
name_front (identifier b ∷ ws) q h = let k = read_is (b, ws) q h in ap (λ n. identifier n ∷ ws) k.0 ∙ ap (λ r. identifier q.0 ∷ r) k.1
name_front (symbol s ∷ ws) q h = absurd cc
name_front (number_lexeme n ∷ ws) q h = absurd cc
name_front (string bytes ∷ ws) q h = absurd cc
name_front (end_mark ∷ ws) q h = absurd cc

pub number_front : (ws : List Lexeme) (q : ℕ × List Lexeme) → number_at ws ≡ Some q → ws ≡ number_lexeme q.0 ∷ q.1
number_front [] q h = absurd cc
number_front (number_lexeme n ∷ ws) q h = let k = read_is (n, ws) q h in ap (λ m. number_lexeme m ∷ ws) k.0 ∙ ap (λ r. number_lexeme q.0 ∷ r) k.1
number_front (identifier b ∷ ws) q h = absurd cc
number_front (symbol s ∷ ws) q h = absurd cc
number_front (string bytes ∷ ws) q h = absurd cc
number_front (end_mark ∷ ws) q h = absurd cc

-- what was tested
pub provided_is : {A : Type 0} (b : Bool) (a x : A) → provided b a ≡ Some x → (b ≡ true) × (a ≡ x)
provided_is true a x h = (refl, cc)
provided_is false a x h = absurd cc

pub is_false : (b : Bool) → not b ≡ true → b ≡ false
is_false true h = absurd cc
is_false false h = refl

pub is_none : {A : Type 0} (o : Option A) → is_some o ≡ false → o ≡ None
is_none None h = refl
is_none (Some x) h = absurd cc

pub neither_is : (a b : Bool) → (a || b) ≡ false → (a ≡ false) × (b ≡ false)
neither_is true b h = absurd cc
neither_is false b h = (refl, h)

pub both_are : (a b : Bool) → (a && b) ≡ true → (a ≡ true) × (b ≡ true)
both_are true b h = (refl, h)
both_are false b h = absurd cc

pub below : (a b : ℕ) → nat_lt a b ≡ true → a < b
below a b h = grind (arith, nat_tests, h)

pub is_below : (a b : ℕ) → a < b → nat_lt a b ≡ true
is_below a b h = grind (arith, nat_tests, h)

pub at_most : (a b : ℕ) → nat_le a b ≡ true → a ≤ b
at_most a b h = grind (arith, nat_tests, h)

pub is_at_most : (a b : ℕ) → a ≤ b → nat_le a b ≡ true
is_at_most a b h = grind (arith, nat_tests, h)

-- what stands before a rest, along equations
pub along : {A : Type 0} (Is : List Lexeme → A → List Lexeme → Type 0) (ws vs : List Lexeme) (x y : A) (rest end : List Lexeme) → ws ≡ vs → y ≡ x → end ≡ rest → Is vs y end → Is ws x rest
along Is ws vs x y rest end a b c h = subst (λ w. Is w x rest) (sym a) (subst (λ v. Is vs v rest) b (subst (λ r. Is vs y r) c h))
