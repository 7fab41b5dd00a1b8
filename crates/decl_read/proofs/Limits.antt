-- What is read keeps the limits: of operations.
use Rattle.std.proofs.Common.{◌≡◌, ℕ, ◌≤◌, List, [], ◌∷◌, length, Some, None, ap, arith}
use Rattle.std.proofs.lemmas.List.{length-append, length-map}
use Rattle.path_tree.specs.declared.token.Symbol.TheVariants as symbols
use Rattle.path_tree.specs.Lexeme.{Lexeme}
use Rattle.std.specs.declared.sync.Arc.{Arc}
use Rattle.std.specs.Arc.{arc_value}
use Rattle.value_core.specs.declared.kind.Kind.{Kind}
use Rattle.decl_core.specs.declared.object.Operation.{Operation}
use Rattle.decl_core.specs.ObjectForm.{OperationForm}
use Rattle.decl_parts.specs.Declarations.{begins}
use Rattle.decl_read.specs.Declarations.{IsEntry, a_procedure, a_function}
use Rattle.decl_core.specs.ObjectForm.{operation_with}
use Rattle.decl_read.specs.DeclarationReading.{entry_in}
use Rattle.decl_core.specs.ObjectMap.{operation_of, operations_of}
use Rattle.token_read.specs.Series.{series_at}
use Rattle.decl_read.proofs.Entries.{entries_exact}
use Rattle.decl_parts.proofs.Limits.{series_keeps}

entry_few : (constants : List (List ℕ × ℕ)) (parts : List (List ℕ × Kind)) (before : List OperationForm) (ws : List Lexeme) (after : List OperationForm) (rest : List Lexeme) → IsEntry constants parts before ws after rest → length after ≤ 32
entry_few constants parts before ws after rest (a_procedure {own = own} {params = given} {all = all} new free room params body) = omega (arith, length-append before (operation_with parts own given None all ∷ []))
entry_few constants parts before ws after rest (a_function {own = own} {params = given} {all = all} {e = e} new free room params sort body) = omega (arith, length-append before (operation_with parts own given (Some e) all ∷ []))

forms_many : {Z : Type 0} (operations : List (Arc Operation Z)) → length (operations_of operations) ≡ length operations
forms_many operations = length-map operations (λ o. operation_of (arc_value o))

-- an object has at most 32 operations
pub operations_few : {Z : Type 0} (constants : List (List ℕ × ℕ)) (parts : List (List ℕ × Kind)) (before all : List (Arc Operation Z)) (ws rest : List Lexeme) → before ≡ [] →
    series_at (entry_in 131072 constants parts) (begins symbols.Entry) 32 (operations_of before) ws ≡ Some (operations_of all, rest) → length all ≤ 32
operations_few constants parts before all ws rest none h =
    let few : length (operations_of before) ≤ 32 = omega (arith, ap length none, forms_many before) in
    let found = (entries_exact 131072 constants parts 32 (operations_of before)).found ws (operations_of all) rest h in
    let kept = series_keeps (λ xs. length xs ≤ 32) (IsEntry constants parts) (begins symbols.Entry) (λ s ws t rest few one. entry_few constants parts s ws t rest one) 32 (operations_of before) ws (operations_of all) rest few found in
    omega (arith, kept, forms_many all)
