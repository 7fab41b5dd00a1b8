-- What is read keeps the limits: of kinds and of paths.
use Rattle.std.proofs.Common.{◌≡◌, ℕ, suc, ◌≤◌, Bool, List, [], ◌∷◌, length, Some, ap, arith}
use Rattle.std.proofs.lemmas.List.{length-append}
use Rattle.path_tree.specs.declared.token.Symbol.TheVariants as symbols
use Rattle.path_tree.specs.Lexeme.{Lexeme}
use Rattle.path_tree.specs.Path.{Path}
use Rattle.value_core.specs.declared.kind.Kind.{Kind}
use Rattle.value_core.specs.Kinds.{IsKind as KeepsLimit}
use Rattle.decl_parts.specs.Declarations.{IsKind, an_array, a_queue, a_table, IsPathItem, a_path, begins}
use Rattle.decl_parts.specs.DeclarationReading.{kind_in, path_item_in}
use Rattle.token_read.specs.Series.{IsSeries, no_more, and_another, series_at}
use Rattle.decl_parts.proofs.KindsExact.{kind_exact}
use Rattle.decl_parts.proofs.PathItems.{paths_exact}

kind_keeps : (constants : List (List ℕ × ℕ)) (ws : List Lexeme) (k : Kind) (rest : List Lexeme) → IsKind constants ws k rest → KeepsLimit k
kind_keeps constants ws k rest (an_array size low high is) = high
kind_keeps constants ws k rest (a_queue is) = tt
kind_keeps constants ws k rest (a_table is) = tt

-- an array of a kind that is read has at most 1,024 elements
pub kind_sized : (constants : List (List ℕ × ℕ)) (ws : List Lexeme) (k : Kind) (rest : List Lexeme) → kind_in constants ws ≡ Some (k, rest) → KeepsLimit k
kind_sized constants ws k rest h = kind_keeps constants ws k rest ((kind_exact constants 131072).found ws k rest h)

-- what each item of a series keeps, the whole series keeps
pub series_keeps : {S : Type 0} (P : S → Type 0) (IsItem : S → List Lexeme → S → List Lexeme → Type 0) (begins : List Lexeme → Bool) →
    ((s : S) (ws : List Lexeme) (t : S) (rest : List Lexeme) → P s → IsItem s ws t rest → P t) →
    (left : ℕ) (s : S) (ws : List Lexeme) (t : S) (rest : List Lexeme) → P s → IsSeries IsItem begins left s ws t rest → P t
series_keeps P IsItem begins keeps left s ws t rest given (no_more is) = given
series_keeps P IsItem begins keeps (suc left) s ws t rest given (and_another {t = u} {vs = vs} is one others) =
    series_keeps P IsItem begins keeps left u vs t rest (keeps s ws u vs given one) others

item_few : (constants : List (List ℕ × ℕ)) (names : List (List ℕ)) (before : List Path) (ws : List Lexeme) (after : List Path) (rest : List Lexeme) → IsPathItem constants names before ws after rest → length after ≤ 16
item_few constants names before ws after rest (a_path {tree = tree} room is ends) = omega (arith, length-append before (tree ∷ []))

-- an object has at most 16 paths
pub paths_few : (constants : List (List ℕ × ℕ)) (names : List (List ℕ)) (before all : List Path) (ws rest : List Lexeme) → before ≡ [] →
    series_at (path_item_in constants names) (begins symbols.Path) 16 before ws ≡ Some (all, rest) → length all ≤ 16
paths_few constants names before all ws rest none h =
    series_keeps (λ xs. length xs ≤ 16) (IsPathItem constants names) (begins symbols.Path) (λ s ws t rest few one. item_few constants names s ws t rest one) 16 before ws all rest (omega (arith, ap length none)) ((paths_exact constants names 131072 16 before).found ws all rest h)
