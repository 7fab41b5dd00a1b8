-- The lexemes of constants, paths, parts and parameters name no operation that is declared.
use Rattle.std.proofs.Common.{◌≡◌, ℕ, suc, ◌-◌, Bool, List, [], ◌∷◌, ◌++◌, length, drop, refl, ap, ◌∙◌}
use Rattle.path_tree.specs.declared.token.Symbol.{Symbol}
use Rattle.path_tree.specs.declared.token.Symbol.TheVariants as symbols
use Rattle.path_tree.specs.Path.{Path}
use Rattle.path_tree.specs.Lexeme.{Lexeme, symbol}
use Rattle.value_core.specs.declared.kind.Elem.{Elem}
use Rattle.value_core.specs.declared.kind.Kind.{Kind}
use Rattle.token_read.specs.Names.{Names}
use Rattle.token_read.specs.Series.{IsSeries, no_more, and_another}
use Rattle.decl_parts.specs.Declarations.{begins, begins_name, IsConstant, constant, IsConsts, consts, IsPathItem, a_path, IsSize, by_number, by_constant, IsElem, integer, text, IsKind, an_array, a_queue, a_table, IsNames, last_name, name_and, names_of_parts, with_params, IsPartGroup, part_group, IsVar, var, IsGroup, group, IsNextGroup, next_group, IsParams, no_params, some_params}
use Rattle.decl_read.proofs.SkippedTexts.{names_in, list_skipped}

-- Where each item declares what it adds, a series does.
pub series_adds : {S : Type 0} (named : S → List (List ℕ)) (IsItem : S → List Lexeme → S → List Lexeme → Type 0) (begins : List Lexeme → Bool) →
    ((s : S) (ws : List Lexeme) (t : S) (rest : List Lexeme) → IsItem s ws t rest → named s ++ names_in ws ≡ named t ++ names_in rest) →
    (left : ℕ) (s : S) (ws : List Lexeme) (t : S) (rest : List Lexeme) → IsSeries IsItem begins left s ws t rest → named s ++ names_in ws ≡ named t ++ names_in rest
series_adds named IsItem begins adds left s ws t rest (no_more is) = refl
series_adds named IsItem begins adds (suc left) s ws t rest (and_another {t = u} {vs = vs} is one others) = adds s ws u vs one ∙ series_adds named IsItem begins adds left u vs t rest others

-- where each item declares nothing, a series declares nothing
pub series_skipped : {S : Type 0} (IsItem : S → List Lexeme → S → List Lexeme → Type 0) (begins : List Lexeme → Bool) →
    ((s : S) (ws : List Lexeme) (t : S) (rest : List Lexeme) → IsItem s ws t rest → names_in ws ≡ names_in rest) →
    (left : ℕ) (s : S) (ws : List Lexeme) (t : S) (rest : List Lexeme) → IsSeries IsItem begins left s ws t rest → names_in ws ≡ names_in rest
series_skipped {S} IsItem begins skipped left s ws t rest is = series_adds (λ (s : S). []) IsItem begins skipped left s ws t rest is

constant_skipped : (before : List (List ℕ × ℕ)) (ws : List Lexeme) (after : List (List ℕ × ℕ)) (rest : List Lexeme) → IsConstant before ws after rest → names_in ws ≡ names_in rest
constant_skipped before ws after rest (constant new room) = refl

pub consts_skipped : (before : List (List ℕ × ℕ)) (ws : List Lexeme) (after : List (List ℕ × ℕ)) (rest : List Lexeme) → IsConsts before ws after rest → names_in ws ≡ names_in rest
consts_skipped before ws after rest (consts {one = one} {ws = us} {vs = vs} first others) =
    constant_skipped before us one vs first ∙ series_skipped IsConstant begins_name constant_skipped 16 one vs after rest others

pub path_skipped : (constants : List (List ℕ × ℕ)) (operations : List (List ℕ)) (before : List Path) (ws : List Lexeme) (after : List Path) (rest : List Lexeme) → IsPathItem constants operations before ws after rest → names_in ws ≡ names_in rest
path_skipped constants operations before ws after rest (a_path {to = to} room is ends) =
    ap names_in is.stands ∙ list_skipped is.text (symbol symbols.End ∷ drop to ws) ∙ ap names_in ends

size_skipped : (constants : List (List ℕ × ℕ)) (w : Lexeme) (n : ℕ) (rest : List Lexeme) → IsSize constants w n → names_in (w ∷ rest) ≡ names_in rest
size_skipped constants w n rest by_number = refl
size_skipped constants w n rest (by_constant is) = refl

pub elem_skipped : (s : Symbol) (e : Elem) (rest : List Lexeme) → IsElem s e → names_in (symbol s ∷ rest) ≡ names_in rest
elem_skipped s e rest integer = refl
elem_skipped s e rest text = refl

kind_skipped : (constants : List (List ℕ × ℕ)) (ws : List Lexeme) (k : Kind) (rest : List Lexeme) → IsKind constants ws k rest → names_in ws ≡ names_in rest
kind_skipped constants ws k rest (an_array {w = w} {n = n} {s = s} {e = e} size least most is) =
    size_skipped constants w n (symbol symbols.CloseBracket ∷ symbol symbols.Of ∷ symbol s ∷ rest) size ∙ elem_skipped s e rest is
kind_skipped constants ws k rest (a_queue {s = s} {e = e} is) = elem_skipped s e rest is
kind_skipped constants ws k rest (a_table {s = s} {e = e} is) = elem_skipped s e rest is

names_skipped : (names : Names) (left : ℕ) (before : List (List ℕ)) (ws : List Lexeme) (all : List (List ℕ)) (rest : List Lexeme) → IsNames names left before ws all rest → names_in ws ≡ names_in rest
names_skipped names left before ws all rest (last_name unknown new) = refl
names_skipped names left before ws all rest (name_and {left = less} {bytes = bytes} {ws = vs} unknown new others) = names_skipped names less (before ++ bytes ∷ []) vs all rest others

part_group_skipped : (constants : List (List ℕ × ℕ)) (before : List (List ℕ × Kind)) (ws : List Lexeme) (after : List (List ℕ × Kind)) (rest : List Lexeme) → IsPartGroup constants before ws after rest → names_in ws ≡ names_in rest
part_group_skipped constants before ws after rest (part_group {new = new} {k = k} {vs = vs} named is) =
    names_skipped (names_of_parts constants before) (16 - length before) [] ws new vs named ∙ kind_skipped constants vs k (symbol symbols.Semicolon ∷ rest) is

pub var_skipped : (constants : List (List ℕ × ℕ)) (before : List (List ℕ × Kind)) (ws : List Lexeme) (after : List (List ℕ × Kind)) (rest : List Lexeme) → IsVar constants before ws after rest → names_in ws ≡ names_in rest
var_skipped constants before ws after rest (var {one = one} {ws = us} {vs = vs} first others) =
    part_group_skipped constants before us one vs first ∙ series_skipped (IsPartGroup constants) begins_name (part_group_skipped constants) 16 one vs after rest others

group_skipped : (names : Names) (before : List (List ℕ × Elem)) (ws : List Lexeme) (after : List (List ℕ × Elem)) (rest : List Lexeme) → IsGroup names before ws after rest → names_in ws ≡ names_in rest
group_skipped names before ws after rest (group {new = new} {s = s} {e = e} named is) =
    names_skipped (with_params names before) (8 - length before) [] ws new (symbol s ∷ rest) named ∙ elem_skipped s e rest is

next_group_skipped : (names : Names) (before : List (List ℕ × Elem)) (ws : List Lexeme) (after : List (List ℕ × Elem)) (rest : List Lexeme) → IsNextGroup names before ws after rest → names_in ws ≡ names_in rest
next_group_skipped names before ws after rest (next_group {ws = vs} is) = group_skipped names before vs after rest is

pub params_skipped : (names : Names) (ws : List Lexeme) (params : List (List ℕ × Elem)) (rest : List Lexeme) → IsParams names ws params rest → names_in ws ≡ names_in rest
params_skipped names ws params rest (no_params none) = refl
params_skipped names ws params rest (some_params {one = one} {ws = us} {vs = vs} first others) =
    group_skipped names [] us one vs first ∙ series_skipped (IsNextGroup names) (begins symbols.Semicolon) (next_group_skipped names) 8 one vs params (symbol symbols.CloseParen ∷ rest) others
