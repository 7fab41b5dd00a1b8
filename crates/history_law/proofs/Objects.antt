-- The objects of a source have names.
use Rattle.std.proofs.Common.{◌≡◌, ℕ, ◌<◌, List, [], ◌∷◌, ◌++◌, map, length, None, Some, sym, subst, arith}
use Rattle.std.specs.Prelude.{Bool, true, false, ◌||◌, is_some, slice_range}
use Rattle.std.proofs.lemmas.List.{length-map, map-append}
use Rattle.path_tree.specs.declared.token.Symbol.TheVariants as symbols
use Rattle.path_tree.specs.Identifier.{IsName}
use Rattle.path_tree.specs.Lexeme.{Lexeme, symbol, number, identifier, string, end_mark}
use Rattle.path_tree.specs.Path.{Path}
use Rattle.path_tree.specs.Tokens.{Placed, IsToken, Tokens, AreTokens, end_at}
use Rattle.path_tree.specs.Known.{value_of}
use Rattle.path_tree.proofs.Spelling.{lower_name}
use Rattle.path_tree.proofs.Words.{word_identifier}
use Rattle.value_core.specs.declared.kind.Kind.{Kind}
use Rattle.decl_core.specs.ObjectForm.{OperationForm, ObjectForm, operation_with}
use Rattle.token_read.specs.Names.{Names, found_in, is_among, is_known}
use Rattle.token_read.specs.Series.{IsSeries}
use Rattle.token_read.specs.Scopes.{operation_names}
use Rattle.decl_parts.specs.Declarations.{begins, IsPathItem, with_params, IsConsts, IsVar}
use Rattle.decl_read.specs.Declarations.{names_before, names_within, names_in_function, IsEntry, a_procedure, a_function, IsObject, object, IsNextObject, next_object, IsFile, file}
use Rattle.history_law.specs.Named.{IsNamed, ReadAreNamed}
use Rattle.history_law.proofs.Clear.{Each, Clear, IsClear, HasName, each_push, all_each, series_clear, consts_clear, path_clear, var_clear, params_clear, stmts_clear}
use Rattle.history_law.proofs.Placed.{AreFirst, first_push}

-- operations have names, each of its own
record AreOwn (operations : List OperationForm) : Type 0 where
  pub named : Each (λ (f : OperationForm). IsName f.name) operations
  pub first : AreFirst (operation_names operations)

not_among : (a b c d : Bool) → (a || b || c || d) ≡ false → d ≡ false
not_among false false false d is = is
not_among false false true d is = absurd cc
not_among false true c d is = absurd cc
not_among true b c d is = absurd cc

-- one operation more
own_push : (before : List OperationForm) (o : OperationForm) → AreOwn before → IsName o.name → is_among (operation_names before) o.name ≡ false → AreOwn (before ++ o ∷ [])
own_push before o own name new = record {
  named = each_push (λ (f : OperationForm). IsName f.name) before o own.named name;
  first = subst AreFirst (sym (map-append (λ (f : OperationForm). f.name) before (o ∷ []))) (first_push (operation_names before) o.name own.first new);
}

new_name : (constants : List (List ℕ × ℕ)) (parts : List (List ℕ × Kind)) (before : List OperationForm) (own : List ℕ) →
    is_known (names_before constants parts before) own ≡ false → is_among (operation_names before) own ≡ false
new_name constants parts before own unknown =
    not_among (is_some (value_of constants own)) false (is_some (found_in parts own)) (is_among (operation_names before) own) unknown

entry_clear : (constants : List (List ℕ × ℕ)) (parts : List (List ℕ × Kind)) (before : List OperationForm) (ws : List Lexeme) (after : List OperationForm) (rest : List Lexeme) →
    IsEntry constants parts before ws after rest → AreOwn before → Clear ws → AreOwn after × Clear rest
entry_clear constants parts before ws after rest (a_procedure {own = own} {params = params} {all = all} {ws = us} {vs = vs} unknown new room given body) owns clear =
    let names : Names = names_within constants parts before own in
    let behind = params_clear names us params (symbol symbols.Semicolon ∷ symbol symbols.Begin ∷ vs) given clear.1.1.1 in (
      own_push before (operation_with parts own params None all) owns clear.1.1.0 (new_name constants parts before own unknown),
      (stmts_clear (with_params names params) 31 vs all (symbol symbols.Semicolon ∷ rest) body behind.1.1).1,
    )
entry_clear constants parts before ws after rest (a_function {own = own} {params = params} {all = all} {s = s} {e = e} {ws = us} {vs = vs} unknown new room given sort body) owns clear =
    let names : Names = names_within constants parts before own in
    let behind = params_clear names us params (symbol symbols.Colon ∷ symbol s ∷ symbol symbols.Semicolon ∷ symbol symbols.Begin ∷ vs) given clear.1.1.1 in (
      own_push before (operation_with parts own params (Some e) all) owns clear.1.1.0 (new_name constants parts before own unknown),
      (stmts_clear (names_in_function (with_params names params) own e) 31 vs all (symbol symbols.Semicolon ∷ rest) body behind.1.1.1.1).1,
    )

none_own : AreOwn []
none_own = record { named = tt; first = λ place within. absurd (omega (arith, within)) }

named_by : (bytes : List ℕ) (parts : List (List ℕ × Kind)) (paths : List Path) (operations : List OperationForm) → IsName bytes → Each HasName parts → AreOwn operations →
    IsNamed (record { name = bytes; parts = parts; paths = paths; operations = operations })
named_by bytes parts paths operations name each owns = record {
  names = record {
    own = name;
    parts = all_each HasName parts each;
    operations = all_each (λ (f : OperationForm). IsName f.name) operations owns.named;
  };
  first = λ place within. owns.first place (subst (λ n. place < n) (sym (length-map operations (λ (f : OperationForm). f.name))) within);
}

paths_clear : {operations : List (List ℕ)} (constants : List (List ℕ × ℕ)) (ws : List Lexeme) (paths : List Path) (rest : List Lexeme) →
    IsSeries (IsPathItem constants operations) (begins symbols.Path) 16 [] ws paths rest → Clear ws → Clear rest
paths_clear {operations = operations} constants ws paths rest is clear =
    (series_clear (λ s. Unit {0}) (IsPathItem constants operations) (begins symbols.Path) (path_clear constants operations) 16 [] ws paths rest is tt clear).1

object_clear : (ws : List Lexeme) (o : ObjectForm) (rest : List Lexeme) → IsObject ws o rest → Clear ws → IsNamed o × Clear rest
object_clear ws o rest (object {bytes = bytes} {constants = constants} {paths = paths} {parts = parts} {operations = operations} {ws = ts} {us = us} {vs = vs} {ys = ys} cs qs ps os) clear =
    let c = series_clear (λ s. Unit {0}) IsConsts (begins symbols.Const) consts_clear 16 [] ts constants us cs tt clear.1.1.1 in
    let q = paths_clear constants us paths vs qs c.1 in
    let p = series_clear (Each HasName) (IsVar constants) (begins symbols.Var) (var_clear constants) 16 [] vs parts ys ps tt q in
    let e = series_clear AreOwn (IsEntry constants parts) (begins symbols.Entry) (entry_clear constants parts) 32 [] ys operations (symbol symbols.End ∷ symbol symbols.Semicolon ∷ rest) os none_own p.1 in
    (named_by bytes parts paths operations clear.1.0 p.0 e.0, e.1.1.1)

next_clear : (before : List ObjectForm) (ws : List Lexeme) (after : List ObjectForm) (rest : List Lexeme) → IsNextObject before ws after rest → Each IsNamed before → Clear ws → Each IsNamed after × Clear rest
next_clear before ws after rest (next_object {o = o} is new) given clear =
    let one = object_clear ws o rest is clear in
    (each_push IsNamed before o given one.0, one.1)

file_named : (ws : List Lexeme) (objects : List ObjectForm) → IsFile ws objects → Clear ws → Each IsNamed objects
file_named ws objects (file all) clear = (series_clear (Each IsNamed) IsNextObject (begins symbols.Object) next_clear 16 [] ws objects (end_mark ∷ []) all tt clear).0

token_clear : (source : List ℕ) (w : Lexeme) (from to : ℕ) → IsToken source w from to → IsClear w
token_clear source (symbol s) from to is = tt
token_clear source (number n) from to is = tt
token_clear source (identifier bytes) from to is =
    subst IsName (sym is.1) (lower_name (slice_range source from to) (word_identifier source from to is.0))
token_clear source (string bytes) from to is = tt
token_clear source end_mark from to is = absurd is

tokens_clear : (source : List ℕ) (from : ℕ) (tokens more : List Placed) (to : ℕ) → Tokens source from tokens to → Clear (map (λ (t : Placed). t.lexeme) more) → Clear (map (λ (t : Placed). t.lexeme) (tokens ++ more))
tokens_clear source from [] more to are clear = clear
tokens_clear source from (t ∷ tokens) more to are clear = (token_clear source t.lexeme t.start t.end are.1, tokens_clear source t.end tokens more to are.2 clear)

source_clear : (source : List ℕ) (all : List Placed) → AreTokens source all → Clear (map (λ (t : Placed). t.lexeme) all)
source_clear source all are = subst (λ (ts : List Placed). Clear (map (λ (t : Placed). t.lexeme) ts)) (sym are.ends) (tokens_clear source 0 are.tokens (end_at (length source) ∷ []) are.last are.in_order (tt, tt))

pub read_are_named : ReadAreNamed
read_are_named source objects is =
    all_each IsNamed objects (file_named (map (λ (t : Placed). t.lexeme) is.tokens) objects is.is (source_clear source is.tokens is.lexed))
