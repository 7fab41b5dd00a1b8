-- In the lexemes of an object no two stand one behind the other with which holds begin.
use Rattle.std.proofs.Common.{◌≡◌, ℕ, suc, ◌-◌, Bool, true, List, [], ◌∷◌, ◌++◌, Option, Some, None, length, drop, refl, sym, ap, ◌∙◌}
use Rattle.path_tree.specs.declared.token.Symbol.{Symbol}
use Rattle.path_tree.specs.declared.token.Symbol.TheVariants as symbols
use Rattle.path_tree.specs.Path.{Path}
use Rattle.path_tree.specs.Lexeme.{Lexeme, symbol, number, identifier}
use Rattle.value_core.specs.declared.kind.Elem.{Elem}
use Rattle.value_core.specs.declared.kind.Kind.{Kind}
use Rattle.token_read.specs.Names.{Names}
use Rattle.token_read.specs.Series.{IsSeries, no_more, and_another}
use Rattle.decl_core.specs.ObjectForm.{OperationForm, ObjectForm}
use Rattle.decl_parts.specs.Declarations.{begins, begins_name, IsConstant, constant, IsConsts, consts, IsPathItem, a_path, IsSize, by_number, by_constant, IsElem, integer, text, IsKind, an_array, a_queue, a_table, IsNames, last_name, name_and, names_of_parts, with_params, IsPartGroup, part_group, IsVar, var, IsGroup, group, IsNextGroup, next_group, IsParams, no_params, some_params}
use Rattle.decl_read.specs.Declarations.{names_within, names_in_function, IsEntry, a_procedure, a_function, IsObject, object}
use Rattle.decl_read.proofs.CalmTexts.{seen, IsPlain, name_seen, list_seen, stmts_seen}

-- what is seen through each item is seen through a series
series_seen : {S : Type 0} (IsItem : S → List Lexeme → S → List Lexeme → Type 0) (begins : List Lexeme → Bool) →
    ((s : S) (ws : List Lexeme) (t : S) (rest : List Lexeme) → IsItem s ws t rest → seen ws ≡ seen rest) →
    (left : ℕ) (s : S) (ws : List Lexeme) (t : S) (rest : List Lexeme) → IsSeries IsItem begins left s ws t rest → seen ws ≡ seen rest
series_seen IsItem begins through left s ws t rest (no_more is) = refl
series_seen IsItem begins through (suc left) s ws t rest (and_another {t = u} {vs = vs} is one others) = through s ws u vs one ∙ series_seen IsItem begins through left u vs t rest others

constant_seen : (before : List (List ℕ × ℕ)) (ws : List Lexeme) (after : List (List ℕ × ℕ)) (rest : List Lexeme) → IsConstant before ws after rest → seen ws ≡ seen rest
constant_seen before ws after rest (constant {bytes = bytes} {n = n} new room) =
    name_seen bytes (symbol symbols.Equal ∷ number n ∷ symbol symbols.Semicolon ∷ rest) (refl, refl)

consts_seen : (before : List (List ℕ × ℕ)) (ws : List Lexeme) (after : List (List ℕ × ℕ)) (rest : List Lexeme) → IsConsts before ws after rest → seen ws ≡ seen rest
consts_seen before ws after rest (consts {one = one} {ws = us} {vs = vs} first others) =
    constant_seen before us one vs first ∙ series_seen IsConstant begins_name constant_seen 16 one vs after rest others

path_seen : (constants : List (List ℕ × ℕ)) (operations : List (List ℕ)) (before : List Path) (ws : List Lexeme) (after : List Path) (rest : List Lexeme) → IsPathItem constants operations before ws after rest → seen ws ≡ seen rest
path_seen constants operations before ws after rest (a_path {to = to} room is ends) =
    ap seen is.stands ∙ list_seen is.text (symbol symbols.End ∷ drop to ws) (refl, refl) ∙ ap seen ends

size_seen : (constants : List (List ℕ × ℕ)) (w : Lexeme) (n : ℕ) (rest : List Lexeme) → IsSize constants w n → IsPlain rest → seen (w ∷ rest) ≡ seen rest
size_seen constants w n rest by_number p = refl
size_seen constants w n rest (by_constant {bytes = bytes} is) p = name_seen bytes rest p

elem_seen : (s : Symbol) (e : Elem) (rest : List Lexeme) → IsElem s e → seen (symbol s ∷ rest) ≡ seen rest
elem_seen s e rest integer = refl
elem_seen s e rest text = refl

kind_seen : (constants : List (List ℕ × ℕ)) (ws : List Lexeme) (k : Kind) (rest : List Lexeme) → IsKind constants ws k rest → seen ws ≡ seen rest
kind_seen constants ws k rest (an_array {w = w} {n = n} {s = s} {e = e} size least most is) =
    size_seen constants w n (symbol symbols.CloseBracket ∷ symbol symbols.Of ∷ symbol s ∷ rest) size (refl, refl) ∙ elem_seen s e rest is
kind_seen constants ws k rest (a_queue {s = s} {e = e} is) = elem_seen s e rest is
kind_seen constants ws k rest (a_table {s = s} {e = e} is) = elem_seen s e rest is

names_seen : (names : Names) (left : ℕ) (before : List (List ℕ)) (ws : List Lexeme) (all : List (List ℕ)) (rest : List Lexeme) → IsNames names left before ws all rest → seen ws ≡ seen rest
names_seen names left before ws all rest (last_name {bytes = bytes} unknown new) = name_seen bytes (symbol symbols.Colon ∷ rest) (refl, refl)
names_seen names left before ws all rest (name_and {left = less} {bytes = bytes} {ws = vs} unknown new others) =
    name_seen bytes (symbol symbols.Comma ∷ vs) (refl, refl) ∙ names_seen names less (before ++ bytes ∷ []) vs all rest others

part_group_seen : (constants : List (List ℕ × ℕ)) (before : List (List ℕ × Kind)) (ws : List Lexeme) (after : List (List ℕ × Kind)) (rest : List Lexeme) → IsPartGroup constants before ws after rest → seen ws ≡ seen rest
part_group_seen constants before ws after rest (part_group {new = new} {k = k} {vs = vs} named is) =
    names_seen (names_of_parts constants before) (16 - length before) [] ws new vs named ∙ kind_seen constants vs k (symbol symbols.Semicolon ∷ rest) is

var_seen : (constants : List (List ℕ × ℕ)) (before : List (List ℕ × Kind)) (ws : List Lexeme) (after : List (List ℕ × Kind)) (rest : List Lexeme) → IsVar constants before ws after rest → seen ws ≡ seen rest
var_seen constants before ws after rest (var {one = one} {ws = us} {vs = vs} first others) =
    part_group_seen constants before us one vs first ∙ series_seen (IsPartGroup constants) begins_name (part_group_seen constants) 16 one vs after rest others

group_seen : (names : Names) (before : List (List ℕ × Elem)) (ws : List Lexeme) (after : List (List ℕ × Elem)) (rest : List Lexeme) → IsGroup names before ws after rest → seen ws ≡ seen rest
group_seen names before ws after rest (group {new = new} {s = s} {e = e} named is) =
    names_seen (with_params names before) (8 - length before) [] ws new (symbol s ∷ rest) named ∙ elem_seen s e rest is

next_group_seen : (names : Names) (before : List (List ℕ × Elem)) (ws : List Lexeme) (after : List (List ℕ × Elem)) (rest : List Lexeme) → IsNextGroup names before ws after rest → seen ws ≡ seen rest
next_group_seen names before ws after rest (next_group {ws = vs} is) = group_seen names before vs after rest is

params_seen : (names : Names) (ws : List Lexeme) (params : List (List ℕ × Elem)) (rest : List Lexeme) → IsParams names ws params rest → seen ws ≡ seen rest
params_seen names ws params rest (no_params none) = refl
params_seen names ws params rest (some_params {one = one} {ws = us} {vs = vs} first others) =
    group_seen names [] us one vs first ∙ series_seen (IsNextGroup names) (begins symbols.Semicolon) (next_group_seen names) 8 one vs params (symbol symbols.CloseParen ∷ rest) others

-- behind the name of an operation neither a name nor a number stands
params_plain : (names : Names) (ws : List Lexeme) (params : List (List ℕ × Elem)) (rest : List Lexeme) → IsParams names ws params rest → IsPlain rest → IsPlain ws
params_plain names ws params rest (no_params none) p = p
params_plain names ws params rest (some_params first others) p = (refl, refl)

entry_seen : (constants : List (List ℕ × ℕ)) (parts : List (List ℕ × Kind)) (before : List OperationForm) (ws : List Lexeme) (after : List OperationForm) (rest : List Lexeme) → IsEntry constants parts before ws after rest → seen ws ≡ seen rest
entry_seen constants parts before ws after rest (a_procedure {own = own} {params = params} {all = all} {ws = us} {vs = vs} unknown new room given body) =
    let names : Names = names_within constants parts before own in
    name_seen own us (params_plain names us params (symbol symbols.Semicolon ∷ symbol symbols.Begin ∷ vs) given (refl, refl))
    ∙ params_seen names us params (symbol symbols.Semicolon ∷ symbol symbols.Begin ∷ vs) given ∙ stmts_seen (with_params names params) 31 vs all (symbol symbols.Semicolon ∷ rest) body
entry_seen constants parts before ws after rest (a_function {own = own} {params = params} {all = all} {s = s} {e = e} {ws = us} {vs = vs} unknown new room given sort body) =
    let names : Names = names_within constants parts before own in
    name_seen own us (params_plain names us params (symbol symbols.Colon ∷ symbol s ∷ symbol symbols.Semicolon ∷ symbol symbols.Begin ∷ vs) given (refl, refl))
    ∙ params_seen names us params (symbol symbols.Colon ∷ symbol s ∷ symbol symbols.Semicolon ∷ symbol symbols.Begin ∷ vs) given ∙ elem_seen s e (symbol symbols.Semicolon ∷ symbol symbols.Begin ∷ vs) sort
    ∙ stmts_seen (names_in_function (with_params names params) own e) 31 vs all (symbol symbols.Semicolon ∷ rest) body

-- what stands behind its word, of an object
pub record ObjectSeen (ws rest : List Lexeme) : Type 0 where
  pub own : List Lexeme
  pub stands : ws ≡ symbol symbols.Object ∷ own
  pub through : seen own ≡ seen rest

pub object_seen : (ws : List Lexeme) (o : ObjectForm) (rest : List Lexeme) → IsObject ws o rest → ObjectSeen ws rest
object_seen ws o rest (object {bytes = bytes} {constants = constants} {paths = paths} {parts = parts} {operations = operations} {ws = ts} {us = us} {vs = vs} {ys = ys} cs qs ps os) =
    record {
      own = identifier bytes ∷ symbol symbols.Semicolon ∷ ts;
      stands = refl;
      through = name_seen bytes (symbol symbols.Semicolon ∷ ts) (refl, refl)
          ∙ series_seen IsConsts (begins symbols.Const) consts_seen 16 [] ts constants us cs
          ∙ series_seen (IsPathItem constants _) (begins symbols.Path) (path_seen constants _) 16 [] us paths vs qs
          ∙ series_seen (IsVar constants) (begins symbols.Var) (var_seen constants) 16 [] vs parts ys ps
          ∙ series_seen (IsEntry constants parts) (begins symbols.Entry) (entry_seen constants parts) 32 [] ys operations (symbol symbols.End ∷ symbol symbols.Semicolon ∷ rest) os;
    }
