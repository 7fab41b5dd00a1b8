-- A body that is read is well typed with what its operation knows of the parts.
use Rattle.std.proofs.Common.{◌≡◌, ℕ, List, [], ◌∷◌, Some, refl, ap, subst, ◌∙◌}
use Rattle.std.specs.Prelude.{map}
use Rattle.path_tree.specs.Lexeme.{Lexeme}
use Rattle.decl_core.specs.declared.object.Param.{Param}
use Rattle.decl_core.specs.declared.stmt.Stmt.{Stmt}
use Rattle.decl_core.specs.View.{all_of}
use Rattle.decl_core.specs.Footprint.{named_in_all}
use Rattle.decl_core.specs.ObjectForm.{kinds_from}
use Rattle.token_read.specs.Names.{Names}
use Rattle.body_read.specs.StatementReading.{body_in}
use Rattle.decl_core.specs.ObjectMap.{params_of}
use Rattle.decl_core.specs.Typed.{IsWellTyped}
use Rattle.body_read.specs.DeclaredTypes.{reply_sort}
use Rattle.body_read.proofs.Naming.{statements_typed}
use Rattle.body_read.proofs.StatementsFound.{body_found}

sorts_of : (params : List Param) → map (λ p. p.1) (params_of params) ≡ map (λ p. p.kind) params
sorts_of [] = refl
sorts_of (p ∷ params) = ap (λ xs. p.kind ∷ xs) (sorts_of params)

-- a body that is read is well typed where the parts are known that it names
pub body_typed : (names : Names) (most : ℕ) (params : List Param) (all : List Stmt) (ws rest : List Lexeme) → body_in names most ws ≡ Some (all_of all, rest) → names.params ≡ params_of params →
    IsWellTyped (kinds_from (named_in_all (all_of all) 0) 0 names.parts) (map (λ p. p.kind) params) (reply_sort names.function) (all_of all)
body_typed names most params all ws rest h same =
    let found = body_found names most ws (all_of all) rest h in
    subst (λ ps. IsWellTyped (kinds_from (named_in_all (all_of all) 0) 0 names.parts) ps (reply_sort names.function) (all_of all))
    (ap (λ ps. map (λ p. p.1) ps) same ∙ sorts_of params)
    (statements_typed names 31 ws (all_of all) rest found)
