-- The names that the paths of an object may use are those of its operations.
use Rattle.std.proofs.Common.{◌≡◌, ℕ, suc, Bool, true, List, [], ◌∷◌, ◌++◌, Option, Some, None, refl, sym, ap, subst, ◌∙◌, append_assoc, append-nil}
use Rattle.std.specs.Prelude.{◌↔◌, is_some}
use Rattle.std.proofs.lemmas.List.{map-append}
use Rattle.path_tree.specs.declared.token.Symbol.TheVariants as symbols
use Rattle.path_tree.specs.Path.{Path}
use Rattle.path_tree.specs.Lexeme.{Lexeme, symbol, end_mark}
use Rattle.path_tree.specs.Reading.{symbol_at}
use Rattle.path_tree.proofs.Found.{symbol_found}
use Rattle.value_core.specs.declared.kind.Kind.{Kind}
use Rattle.token_read.specs.Names.{Names}
use Rattle.decl_core.specs.ObjectForm.{OperationForm, ObjectForm}
use Rattle.token_read.specs.Series.{IsSeries, no_more, and_another}
use Rattle.decl_parts.specs.Declarations.{begins, IsConsts, IsPathItem, a_path, IsVar, with_params}
use Rattle.decl_read.specs.Declarations.{names_within, names_in_function, IsEntry, a_procedure, a_function, IsObject, object, IsNextObject, next_object, IsFile, file}
use Rattle.token_read.specs.Scopes.{operation_names}
use Rattle.decl_core.specs.ObjectForm.{operation_with}
use Rattle.decl_read.specs.ObjectLaws.{IsObjectByOperations, object_by, IsNextByOperations, next_by, IsFileByOperations, IsPathOver, EachOver, EachNamed}
use Rattle.decl_read.proofs.SkippedTexts.{names_in}
use Rattle.decl_read.proofs.SkippedStatements.{stmts_skipped}
use Rattle.decl_read.proofs.SkippedDeclarations.{series_adds, series_skipped, consts_skipped, path_skipped, elem_skipped, var_skipped, params_skipped}

-- the names of operations, and of one more
name_added : (before : List OperationForm) (o : OperationForm) (rest : List (List ℕ)) → operation_names before ++ o.name ∷ rest ≡ operation_names (before ++ o ∷ []) ++ rest
name_added before o rest =
    sym (append_assoc (operation_names before) (o.name ∷ []) rest) ∙ ap (λ names. names ++ rest) (sym (map-append (λ (p : OperationForm). p.name) before (o ∷ [])))

-- an entry declares its own name
entry_adds : (constants : List (List ℕ × ℕ)) (parts : List (List ℕ × Kind)) (before : List OperationForm) (ws : List Lexeme) (after : List OperationForm) (rest : List Lexeme) → IsEntry constants parts before ws after rest →
    operation_names before ++ names_in ws ≡ operation_names after ++ names_in rest
entry_adds constants parts before ws after rest (a_procedure {own = own} {params = params} {all = all} {ws = us} {vs = vs} unknown new room given body) =
    let names : Names = names_within constants parts before own in
    let skipped = params_skipped names us params (symbol symbols.Semicolon ∷ symbol symbols.Begin ∷ vs) given ∙ stmts_skipped (with_params names params) 31 vs all (symbol symbols.Semicolon ∷ rest) body in
    ap (λ xs. operation_names before ++ own ∷ xs) skipped ∙ name_added before (operation_with parts own params None all) (names_in rest)
entry_adds constants parts before ws after rest (a_function {own = own} {params = params} {all = all} {s = s} {e = e} {ws = us} {vs = vs} unknown new room given sort body) =
    let names : Names = names_within constants parts before own in
    let skipped = params_skipped names us params (symbol symbols.Colon ∷ symbol s ∷ symbol symbols.Semicolon ∷ symbol symbols.Begin ∷ vs) given ∙ elem_skipped s e (symbol symbols.Semicolon ∷ symbol symbols.Begin ∷ vs) sort
    ∙ stmts_skipped (names_in_function (with_params names params) own e) 31 vs all (symbol symbols.Semicolon ∷ rest) body in
    ap (λ xs. operation_names before ++ own ∷ xs) skipped ∙ name_added before (operation_with parts own params (Some e) all) (names_in rest)

-- What each item keeps, a series keeps.
series_keeps : {S : Type 0} (P : S → Type 0) (IsItem : S → List Lexeme → S → List Lexeme → Type 0) (begins : List Lexeme → Bool) →
    ((s : S) (ws : List Lexeme) (t : S) (rest : List Lexeme) → IsItem s ws t rest → P s → P t) →
    (left : ℕ) (s : S) (ws : List Lexeme) (t : S) (rest : List Lexeme) → IsSeries IsItem begins left s ws t rest → P s → P t
series_keeps P IsItem begins keeps left s ws t rest (no_more is) p = p
series_keeps P IsItem begins keeps (suc left) s ws t rest (and_another {t = u} {vs = vs} is one others) p = series_keeps P IsItem begins keeps left u vs t rest others (keeps s ws u vs one p)

-- In an object behind which no entry is found, those that are found are its operations, whatever names its paths may use.
names_same : (constants : List (List ℕ × ℕ)) (names : List (List ℕ)) (paths : List Path) (parts : List (List ℕ × Kind)) (operations : List OperationForm) (ws us vs ys rest : List Lexeme) →
    IsSeries IsConsts (begins symbols.Const) 16 [] ws constants us → IsSeries (IsPathItem constants names) (begins symbols.Path) 16 [] us paths vs → IsSeries (IsVar constants) (begins symbols.Var) 16 [] vs parts ys →
    IsSeries (IsEntry constants parts) (begins symbols.Entry) 32 [] ys operations (symbol symbols.End ∷ symbol symbols.Semicolon ∷ rest) → names_in rest ≡ [] → names_in ws ≡ operation_names operations
names_same constants names paths parts operations ws us vs ys rest cs qs ps os none =
    series_skipped IsConsts (begins symbols.Const) consts_skipped 16 [] ws constants us cs
    ∙ series_skipped (IsPathItem constants names) (begins symbols.Path) (path_skipped constants names) 16 [] us paths vs qs
    ∙ series_skipped (IsVar constants) (begins symbols.Var) (var_skipped constants) 16 [] vs parts ys ps
    ∙ series_adds operation_names (IsEntry constants parts) (begins symbols.Entry) (entry_adds constants parts) 32 [] ys operations (symbol symbols.End ∷ symbol symbols.Semicolon ∷ rest) os
    ∙ ap (λ xs. operation_names operations ++ xs) none ∙ append-nil (operation_names operations)

object_to : (ws : List Lexeme) (o : ObjectForm) (rest : List Lexeme) → IsObject ws o rest → names_in rest ≡ [] → IsObjectByOperations ws o rest
object_to ws o rest (object {constants = constants} {paths = paths} {parts = parts} {operations = operations} {ws = ts} {us = us} {vs = vs} {ys = ys} cs qs ps os) none =
    let same = names_same constants (names_in ts) paths parts operations ts us vs ys rest cs qs ps os none in
    object_by cs (subst (λ names. IsSeries (IsPathItem constants names) (begins symbols.Path) 16 [] us paths vs) same qs) ps os

object_from : (ws : List Lexeme) (o : ObjectForm) (rest : List Lexeme) → IsObjectByOperations ws o rest → names_in rest ≡ [] → IsObject ws o rest
object_from ws o rest (object_by {constants = constants} {paths = paths} {parts = parts} {operations = operations} {ws = ts} {us = us} {vs = vs} {ys = ys} cs qs ps os) none =
    let same = names_same constants (operation_names operations) paths parts operations ts us vs ys rest cs qs ps os none in
    object cs (subst (λ names. IsSeries (IsPathItem constants names) (begins symbols.Path) 16 [] us paths vs) (sym same) qs) ps os

next_to : (before : List ObjectForm) (ws : List Lexeme) (after : List ObjectForm) (rest : List Lexeme) → IsNextObject before ws after rest → names_in rest ≡ [] → IsNextByOperations before ws after rest
next_to before ws after rest (next_object {o = o} is new) none = next_by (object_to ws o rest is none) new

next_from : (before : List ObjectForm) (ws : List Lexeme) (after : List ObjectForm) (rest : List Lexeme) → IsNextByOperations before ws after rest → names_in rest ≡ [] → IsNextObject before ws after rest
next_from before ws after rest (next_by {o = o} is new) none = next_object (object_from ws o rest is none) new

-- at the word `object` no entry is found
next_stops : (ws : List Lexeme) (o : Option (List Lexeme)) → symbol_at symbols.Object ws ≡ o → is_some o ≡ true → names_in ws ≡ []
next_stops ws (Some behind) is h = ap names_in (symbol_found symbols.Object ws behind is)
next_stops ws None is h = absurd cc

module _ (One Other : List ObjectForm → List Lexeme → List ObjectForm → List Lexeme → Type 0) (turned : (before : List ObjectForm) (ws : List Lexeme) (after : List ObjectForm) (rest : List Lexeme) → One before ws after rest → names_in rest ≡ [] → Other before ws after rest) where
  objects_stop : (left : ℕ) (before : List ObjectForm) (ws : List Lexeme) (after : List ObjectForm) (rest : List Lexeme) → IsSeries One (begins symbols.Object) left before ws after rest → names_in rest ≡ [] → names_in ws ≡ []
  objects_stop left before ws after rest (no_more is) none = none
  objects_stop (suc left) before ws after rest (and_another is one others) none = next_stops ws (symbol_at symbols.Object ws) refl is

  objects_turned : (left : ℕ) (before : List ObjectForm) (ws : List Lexeme) (after : List ObjectForm) (rest : List Lexeme) → IsSeries One (begins symbols.Object) left before ws after rest → names_in rest ≡ [] → IsSeries Other (begins symbols.Object) left before ws after rest
  objects_turned left before ws after rest (no_more is) none = no_more is
  objects_turned (suc left) before ws after rest (and_another {t = one} {vs = vs} is next others) none =
      and_another is (turned before ws one vs next (objects_stop left one vs after rest others none)) (objects_turned left one vs after rest others none)

file_to : (ws : List Lexeme) (objects : List ObjectForm) → IsFile ws objects → IsFileByOperations ws objects
file_to ws objects (file all) = objects_turned IsNextObject IsNextByOperations next_to 16 [] ws objects (end_mark ∷ []) all refl

pub names_are_operations : (ws : List Lexeme) (objects : List ObjectForm) → IsFile ws objects ↔ IsFileByOperations ws objects
names_are_operations ws objects = (file_to ws objects, λ all. file (objects_turned IsNextByOperations IsNextObject next_from 16 [] ws objects (end_mark ∷ []) all refl))

-- paths over these names, and one more
path_added : (names : List (List ℕ)) (before : List Path) (e : Path) → EachOver names before → IsPathOver names e → EachOver names (before ++ e ∷ [])
path_added names [] e each is = (is, tt)
path_added names (x ∷ before) e each is = (each.0, path_added names before e each.1 is)

path_over : (constants : List (List ℕ × ℕ)) (names : List (List ℕ)) (before : List Path) (ws : List Lexeme) (after : List Path) (rest : List Lexeme) → IsPathItem constants names before ws after rest → EachOver names before → EachOver names after
path_over constants names before ws after rest (a_path {tree = tree} {to = to} room is ends) each = path_added names before tree each (constants, ws, to, is)

-- objects of which each path is over the names of the operations, and one more
object_added : (before : List ObjectForm) (o : ObjectForm) → EachNamed before → EachOver (operation_names o.operations) o.paths → EachNamed (before ++ o ∷ [])
object_added [] o each is = (is, tt)
object_added (x ∷ before) o each is = (each.0, object_added before o each.1 is)

object_over : (ws : List Lexeme) (o : ObjectForm) (rest : List Lexeme) → IsObjectByOperations ws o rest → EachOver (operation_names o.operations) o.paths
object_over ws o rest (object_by {constants = constants} {paths = paths} {operations = operations} {us = us} {vs = vs} cs qs ps os) =
    series_keeps (EachOver (operation_names operations)) (IsPathItem constants (operation_names operations)) (begins symbols.Path) (path_over constants (operation_names operations)) 16 [] us paths vs qs tt

next_named : (before : List ObjectForm) (ws : List Lexeme) (after : List ObjectForm) (rest : List Lexeme) → IsNextByOperations before ws after rest → EachNamed before → EachNamed after
next_named before ws after rest (next_by {o = o} is new) each = object_added before o each (object_over ws o rest is)

pub paths_name_operations : (ws : List Lexeme) (objects : List ObjectForm) → IsFile ws objects → EachNamed objects
paths_name_operations ws objects is = series_keeps EachNamed IsNextByOperations (begins symbols.Object) next_named 16 [] ws objects (end_mark ∷ []) (file_to ws objects is) tt
