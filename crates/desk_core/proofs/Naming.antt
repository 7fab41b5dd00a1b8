-- The operation that is asked for is the first of its name.
use Rattle.std.proofs.Common.{◌≡◌, ◌∙◌, ℕ, List, [], ◌∷◌, Some, ap, sym, subst}
use Rattle.std.specs.Prelude.{slice_get, unwrap_or, take}
use Rattle.decl_core.specs.declared.object.Object.{Object}
use Rattle.decl_core.specs.declared.object.Operation.{Operation}
use Rattle.page_core.specs.Lists.{Every}
use Rattle.board_core.specs.Board.{bodies}
use Rattle.board_core.specs.Sound.{IsFirstNamed}
use Rattle.board_core.specs.Answers.{HasName, IsNamedAt}
use Rattle.page_core.proofs.Lists.{Every-map}

-- none before an operation that is the first to have a name that was asked for has the operation's own name
first_named : (o : Object) (place : ℕ) (operation : Operation) (name : List ℕ) → IsNamedAt o place operation name → IsFirstNamed o place operation
first_named o place operation name named = Every-map (λ x. HasName name x → ⊥) (λ x. x.name ≡ operation.name → ⊥) (λ x other same. other (named.has ∙ sym same)) (take place (bodies o)) named.first

-- of the one operation at the place
pub first_at : (o : Object) (place : ℕ) (operation other : Operation) (name : List ℕ) → IsNamedAt o place operation name → slice_get (bodies o) place ≡ Some other → IsFirstNamed o place other
first_at o place operation other name named there = subst (IsFirstNamed o place) (ap (λ x. unwrap_or x other) (sym named.there ∙ there)) (first_named o place operation name named)
