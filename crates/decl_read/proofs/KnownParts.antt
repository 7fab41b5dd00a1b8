-- What the operations of an object know of its parts is so.
use Rattle.std.proofs.Common.{◌≡◌, ℕ, List, [], ◌∷◌, ◌++◌, Some, None, map, refl, sym, ap, subst, ◌∙◌}
use Rattle.std.specs.declared.sync.Arc.{Arc}
use Rattle.std.specs.Arc.{arc_value}
use Rattle.path_tree.specs.declared.token.Symbol.TheVariants as symbols
use Rattle.path_tree.specs.Lexeme.{Lexeme}
use Rattle.value_core.specs.declared.kind.Kind.{Kind}
use Rattle.decl_core.specs.declared.object.Operation.{Operation}
use Rattle.decl_core.specs.declared.object.Part.{Part}
use Rattle.decl_core.specs.Footprint.{named_in_all}
use Rattle.decl_core.specs.ObjectForm.{OperationForm, operation_with}
use Rattle.decl_core.specs.ObjectMap.{parts_of, operations_of}
use Rattle.decl_core.specs.PartKinds.{AreKindsOf, EachKindsOf}
use Rattle.decl_core.proofs.KnownKinds.{kinds_known}
use Rattle.decl_read.specs.Declarations.{IsEntry, a_procedure, a_function}
use Rattle.decl_parts.specs.Declarations.{begins}
use Rattle.decl_read.specs.DeclarationReading.{entry_in}
use Rattle.token_read.specs.Series.{series_at}
use Rattle.decl_read.proofs.Entries.{entries_exact}
use Rattle.decl_parts.proofs.Limits.{series_keeps}

-- each of these operations knows kinds of these parts
abbrev Knows : List (List ℕ × Kind) → List OperationForm → Type 0
Knows parts operations = EachKindsOf (map (λ p. p.1) parts) (map (λ o. o.kinds) operations)

knows_more : (parts : List (List ℕ × Kind)) (before : List OperationForm) (o : OperationForm) → Knows parts before → AreKindsOf (map (λ p. p.1) parts) o.kinds → Knows parts (before ++ o ∷ [])
knows_more parts [] o given one = (one, tt)
knows_more parts (x ∷ before) o given one = (given.0, knows_more parts before o given.1 one)

entry_knows : (constants : List (List ℕ × ℕ)) (parts : List (List ℕ × Kind)) (before : List OperationForm) (ws : List Lexeme) (after : List OperationForm) (rest : List Lexeme) → Knows parts before → IsEntry constants parts before ws after rest → Knows parts after
entry_knows constants parts before ws after rest given (a_procedure {own = own} {params = params} {all = all} new free room ps body) =
    knows_more parts before (operation_with parts own params None all) given (kinds_known (named_in_all all 0) 0 parts)
entry_knows constants parts before ws after rest given (a_function {own = own} {params = params} {all = all} {e = e} new free room ps sort body) =
    knows_more parts before (operation_with parts own params (Some e) all) given (kinds_known (named_in_all all 0) 0 parts)

kinds_of_parts : (parts : List Part) → map (λ p. p.1) (parts_of parts) ≡ map (λ p. p.kind) parts
kinds_of_parts [] = refl
kinds_of_parts (p ∷ parts) = ap (λ xs. p.kind ∷ xs) (kinds_of_parts parts)

kinds_of_forms : {Z : Type 0} (operations : List (Arc Operation Z)) → map (λ o. o.kinds) (operations_of operations) ≡ map (λ o. o.kinds.items) (map arc_value operations)
kinds_of_forms [] = refl
kinds_of_forms (o ∷ operations) = ap (λ xs. (arc_value o).kinds.items ∷ xs) (kinds_of_forms operations)

-- what the operations of an object know of its parts is so
pub operations_know : {Z : Type 0} (constants : List (List ℕ × ℕ)) (there parts : List Part) (before all : List (Arc Operation Z)) (ws rest : List Lexeme) → there ≡ parts → before ≡ [] →
    series_at (entry_in 131072 constants (parts_of there)) (begins symbols.Entry) 32 (operations_of before) ws ≡ Some (operations_of all, rest) → EachKindsOf (map (λ p. p.kind) parts) (map (λ o. o.kinds.items) (map arc_value all))
operations_know constants there parts before all ws rest same none h =
    let found = (entries_exact 131072 constants (parts_of there) 32 (operations_of before)).found ws (operations_of all) rest h in
    let given : Knows (parts_of there) (operations_of before) = subst (λ xs. Knows (parts_of there) (operations_of xs)) (sym none) tt in
    let kept = series_keeps (Knows (parts_of there)) (IsEntry constants (parts_of there)) (begins symbols.Entry) (entry_knows constants (parts_of there)) 32 (operations_of before) ws (operations_of all) rest given found in
    let known : EachKindsOf (map (λ p. p.1) (parts_of there)) (map (λ o. o.kinds.items) (map arc_value all)) = subst (EachKindsOf (map (λ p. p.1) (parts_of there))) (kinds_of_forms all) kept in
    subst (λ ks. EachKindsOf ks (map (λ o. o.kinds.items) (map arc_value all))) (kinds_of_parts there ∙ ap (map (λ p. p.kind)) same) known
