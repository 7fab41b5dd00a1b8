-- Holds, and what is called again and again, are read exactly.
use Rattle.std.proofs.Common.{◌≡◌, ℕ, suc, ◌<◌, ◌≤◌, Bool, true, false, cond, not, ◌||◌, List, [], ◌∷◌, ◌++◌, length, Option, Some, None, nat_le, ◌&&◌, refl, sym, ap, subst, ◌∙◌, arith}
use Rattle.std.specs.Prelude.{bytes_eq, slice_get}
use Rattle.std.proofs.lemmas.Slice.Eq.{bytes_eq-Decides}
use Rattle.std.proofs.lemmas.List.{length-map}
use Rattle.path_tree.specs.declared.token.Symbol.TheVariants as symbols
use Rattle.path_tree.specs.Lexeme.{Lexeme, symbol, number as number_lexeme, identifier, string, end_mark}
use Rattle.path_tree.specs.Reading.{symbol_at}
use Rattle.path_tree.specs.Known.{place_of, next}
use Rattle.path_tree.proofs.Found.{symbol_found}
use Rattle.token_read.specs.Names.{name_at}
use Rattle.token_read.specs.Scopes.{operation_names}
use Rattle.token_read.specs.Series.{IsSeries, series_at}
use Rattle.token_read.proofs.Exact.{Exact, bind_some, read_is, series_exact}
use Rattle.decl_core.specs.ObjectForm.{OperationForm}
use Rattle.decl_core.specs.HoldForm.{signatures_of, signature_of}
use Rattle.decl_core.specs.HoldForm.{HoldForm, EveryForm, Signature, MayEnd, IsEvery, is_one_of, named_in, ending_in, called_in}
use Rattle.decl_read.specs.declared.words.HoldKeyword.{HoldKeyword}
use Rattle.decl_read.specs.declared.words.HoldKeyword.TheVariants as words
use Rattle.decl_read.specs.Words.{word, word_text, word_at, begins_word}
use Rattle.decl_parts.specs.Declarations.{begins}
use Rattle.decl_read.specs.Holds.{IsOperation, is_taken, IsUndo, undo, IsNextUndo, next_undo, IsUndos, undos, IsLoose, strict, loose, IsHoldItem, a_hold, IsEveryItem, an_every}
use Rattle.decl_parts.specs.DeclarationReading.{provided, number_at}
use Rattle.decl_read.specs.HoldReading.{operation_at, may_end, undo_in, next_undo_in, undos_in, loose_by, loose_in, hold_in, seconds_of, is_bare, every_in}
use Rattle.decl_parts.proofs.Fronts.{name_front, number_front, provided_is, is_false, neither_is, both_are, at_most, is_at_most, along}
use Rattle.decl_read.proofs.HoldsFit.{end_found, end_read, bare_found, bare_read}

chosen : (b : Bool) (x y : List ℕ) (ws rest : List Lexeme) → (b ≡ true → x ≡ y) → cond b (Some ws) None ≡ Some rest → identifier x ∷ ws ≡ identifier y ∷ rest
chosen true x y ws rest h e = let same : ws ≡ rest = cc in ap (λ z. identifier z ∷ ws) (h refl) ∙ ap (λ r. identifier y ∷ r) same
chosen false x y ws rest h e = absurd cc

pub word_found : (w : HoldKeyword) (ws rest : List Lexeme) → word_at w ws ≡ Some rest → ws ≡ word w ∷ rest
word_found w [] rest h = absurd cc
word_found w (identifier bytes ∷ ws) rest h = chosen (bytes_eq bytes (word_text w)) bytes (word_text w) ws rest (bytes_eq-Decides bytes (word_text w)).0 h
word_found w (symbol s ∷ ws) rest h = absurd cc
word_found w (number_lexeme n ∷ ws) rest h = absurd cc
word_found w (string bytes ∷ ws) rest h = absurd cc
word_found w (end_mark ∷ ws) rest h = absurd cc

-- the place of a name is one of theirs
place_by : (b : Bool) (o : Option ℕ) (n k : ℕ) → ((j : ℕ) → o ≡ Some j → j < n) → cond b (Some 0) (next o) ≡ Some k → k < suc n
place_by true o n k f h = let e : 0 ≡ k = cc in omega (arith, e)
place_by false None n k f h = absurd cc
place_by false (Some j) n k f h = let e : suc j ≡ k = cc in omega (arith, e, f j refl)

place_within : (names : List (List ℕ)) (bytes : List ℕ) (k : ℕ) → place_of names bytes ≡ Some k → k < length names
place_within [] bytes k h = absurd cc
place_within (x ∷ xs) bytes k h = place_by (bytes_eq x bytes) (place_of xs bytes) (length xs) k (λ j e. place_within xs bytes j e) h

pub operation_within : (operations : List OperationForm) (bytes : List ℕ) (op : ℕ) → IsOperation operations bytes op → op < length (signatures_of operations)
operation_within operations bytes op is =
    omega (arith, place_within (operation_names operations) bytes op is, length-map operations (λ (o : OperationForm). o.name), length-map operations signature_of)

record OperationRead (operations : List OperationForm) (ws : List Lexeme) (op : ℕ) (rest : List Lexeme) : Type 0 where
  bytes : List ℕ
  stands : ws ≡ identifier bytes ∷ rest
  is : IsOperation operations bytes op

operation_found : (operations : List OperationForm) (ws : List Lexeme) (op : ℕ) (rest : List Lexeme) → operation_at operations ws ≡ Some (op, rest) → OperationRead operations ws op rest
unfolding operation_at
operation_found operations ws op rest h =
    let q = bind_some (name_at ws) _ (op, rest) h in
    let o = bind_some (place_of (operation_names operations) q.0.0) _ (op, rest) q.2 in
    let k = read_is (o.0, q.0.1) (op, rest) o.2 in
    record {
      bytes = q.0.0;
      stands = name_front ws q.0 q.1 ∙ ap (λ r. identifier q.0.0 ∷ r) k.1;
      is = o.1 ∙ ap Some k.0;
    }

operation_read : (operations : List OperationForm) (bytes : List ℕ) (op : ℕ) (rest : List Lexeme) → IsOperation operations bytes op → operation_at operations (identifier bytes ∷ rest) ≡ Some (op, rest)
unfolding operation_at
operation_read operations bytes op rest is = rw is refl

module _ (most : ℕ) (operations : List OperationForm) where
  module _ (holds : List HoldForm) (op : ℕ) (known : op < length (signatures_of operations)) where
    undo_found : (before : List ℕ) (ws : List Lexeme) (x : List ℕ) (rest : List Lexeme) → undo_in operations holds op before ws ≡ Some (x, rest) → IsUndo operations holds op before ws x rest
    unfolding undo_in
    undo_found before ws x rest h =
        let q = bind_some (operation_at operations ws) _ (x, rest) h in
        let new = bind_some (provided (not (is_taken holds op before q.0.0)) q.0.0) _ (x, rest) q.2 in
        let fits = bind_some (provided (may_end operations op q.0.0) new.0) _ (x, rest) new.2 in
        let same = read_is (before ++ q.0.0 ∷ [], q.0.1) (x, rest) fits.2 in
        let o = operation_found operations ws q.0.0 q.0.1 q.1 in
        let free = is_false (is_taken holds op before q.0.0) (provided_is (not (is_taken holds op before q.0.0)) q.0.0 new.0 new.1).0 in
        let ends = (provided_is (may_end operations op q.0.0) new.0 fits.0 fits.1).0 in
        along (IsUndo operations holds op before) ws _ x _ rest _ o.stands same.0 same.1
        (undo o.is free (end_found operations op q.0.0 (slice_get operations op) (slice_get operations q.0.0) refl refl ends))

    undo_read : (before : List ℕ) (ws : List Lexeme) (x : List ℕ) (rest : List Lexeme) → IsUndo operations holds op before ws x rest → undo_in operations holds op before ws ≡ Some (x, rest)
    unfolding undo_in
    undo_read before ws x rest (undo {bytes = bytes} {u = u} is free ends) =
        let test : may_end operations op u ≡ true = end_read operations op u (slice_get operations op) (slice_get operations u) known refl refl ends in
        rw (operation_read operations bytes u rest is, free, test) refl

    undo_shorter : (before : List ℕ) (ws : List Lexeme) (x : List ℕ) (rest : List Lexeme) → IsUndo operations holds op before ws x rest → length rest ≤ length ws
    undo_shorter before ws x rest (undo is free ends) = omega arith

    next_undo_found : (before : List ℕ) (ws : List Lexeme) (x : List ℕ) (rest : List Lexeme) → next_undo_in operations holds op before ws ≡ Some (x, rest) → IsNextUndo operations holds op before ws x rest
    unfolding next_undo_in
    next_undo_found before ws x rest h =
        let opened = bind_some (symbol_at symbols.Comma ws) _ (x, rest) h in
        along (IsNextUndo operations holds op before) ws _ x x rest rest (symbol_found symbols.Comma ws opened.0 opened.1) refl refl
        (next_undo (undo_found before opened.0 x rest opened.2))

    next_undo_read : (before : List ℕ) (ws : List Lexeme) (x : List ℕ) (rest : List Lexeme) → IsNextUndo operations holds op before ws x rest → next_undo_in operations holds op before ws ≡ Some (x, rest)
    unfolding next_undo_in
    next_undo_read before ws x rest (next_undo {ws = us} is) = undo_read before us x rest is

    next_undo_shorter : (before : List ℕ) (ws : List Lexeme) (x : List ℕ) (rest : List Lexeme) → IsNextUndo operations holds op before ws x rest → length rest ≤ length ws
    next_undo_shorter before ws x rest (next_undo {ws = us} is) = omega (arith, undo_shorter before us x rest is)

    next_undo_exact : (before : List ℕ) → Exact most (IsNextUndo operations holds op before) (next_undo_in operations holds op before)
    next_undo_exact before = record {
      found = λ ws x rest h. next_undo_found before ws x rest h;
      read = λ ws x rest long h. next_undo_read before ws x rest h;
      shorter = λ ws x rest h. next_undo_shorter before ws x rest h;
    }

    more_exact : (one : List ℕ) → Exact most (IsSeries (IsNextUndo operations holds op) (begins symbols.Comma) 32 one) (series_at (next_undo_in operations holds op) (begins symbols.Comma) 32 one)
    more_exact one = series_exact most (IsNextUndo operations holds op) (next_undo_in operations holds op) (begins symbols.Comma) next_undo_exact 32 one

    undos_found : (ws : List Lexeme) (x : List ℕ) (rest : List Lexeme) → undos_in operations holds op ws ≡ Some (x, rest) → IsUndos operations holds op ws x rest
    unfolding undos_in
    undos_found ws x rest h =
        let one = bind_some (undo_in operations holds op [] ws) _ (x, rest) h in
        undos (undo_found [] ws one.0.0 one.0.1 one.1) ((more_exact one.0.0).found one.0.1 x rest one.2)

    undos_read : (ws : List Lexeme) (x : List ℕ) (rest : List Lexeme) → length ws < most → IsUndos operations holds op ws x rest → undos_in operations holds op ws ≡ Some (x, rest)
    unfolding undos_in
    undos_read ws x rest long (undos {one = one} {vs = vs} first others) =
        let short = undo_shorter [] ws one vs first in
        rw (undo_read [] ws one vs first) ((more_exact one).read vs x rest (omega arith) others)

    undos_shorter : (ws : List Lexeme) (x : List ℕ) (rest : List Lexeme) → IsUndos operations holds op ws x rest → length rest ≤ length ws
    undos_shorter ws x rest (undos {one = one} {vs = vs} first others) =
        omega (arith, undo_shorter [] ws one vs first, (more_exact one).shorter vs x rest others)

    -- what stands behind an operation that ends a hold is shorter
    pub behind_next_undo : (before x : List ℕ) (ws rest : List Lexeme) → next_undo_in operations holds op before ws ≡ Some (x, rest) → length rest ≤ length ws
    behind_next_undo before x ws rest h = next_undo_shorter before ws x rest (next_undo_found before ws x rest h)

  loose_found : (o : Option (List Lexeme)) (ws : List Lexeme) (x : Bool) (rest : List Lexeme) → word_at words.By ws ≡ o → loose_by ws o ≡ Some (x, rest) → IsLoose ws x rest
  unfolding loose_by
  loose_found None ws x rest is h = let k = read_is (false, ws) (x, rest) h in along IsLoose ws ws x false rest ws refl k.0 k.1 (strict is)
  loose_found (Some opened) ws x rest is h =
      let any = bind_some (word_at words.Any opened) _ (x, rest) h in
      let k = read_is (true, any.0) (x, rest) any.2 in
      along IsLoose ws _ x true rest _ (word_found words.By ws opened is ∙ ap (λ r. word words.By ∷ r) (word_found words.Any opened any.0 any.1)) k.0 k.1 loose

  loose_read : (ws : List Lexeme) (x : Bool) (rest : List Lexeme) → IsLoose ws x rest → loose_by ws (word_at words.By ws) ≡ Some (x, rest)
  unfolding loose_by
  loose_read ws x rest (strict is) = rw is refl
  loose_read ws x rest loose = refl

  loose_shorter : (ws : List Lexeme) (x : Bool) (rest : List Lexeme) → IsLoose ws x rest → length rest ≤ length ws
  loose_shorter ws x rest (strict is) = omega arith
  loose_shorter ws x rest loose = omega arith

  hold_found : (before : List HoldForm) (ws : List Lexeme) (x : List HoldForm) (rest : List Lexeme) → hold_in operations before ws ≡ Some (x, rest) → IsHoldItem operations before ws x rest
  unfolding hold_in loose_in
  hold_found before ws x rest h =
      let opened = bind_some (word_at words.Hold ws) _ (x, rest) h in
      let q = bind_some (operation_at operations opened.0) _ (x, rest) opened.2 in
      let new = bind_some (provided (not (is_one_of (named_in before) q.0.0)) q.0.0) _ (x, rest) q.2 in
      let behind = bind_some (word_at words.Until q.0.1) _ (x, rest) new.2 in
      let u = bind_some (undos_in operations before q.0.0 behind.0) _ (x, rest) behind.2 in
      let b = bind_some (loose_in u.0.1) _ (x, rest) u.2 in
      let end = bind_some (symbol_at symbols.Semicolon b.0.1) _ (x, rest) b.2 in
      let form : HoldForm = record { op = q.0.0; until = u.0.0; by_any = b.0.0 } in
      let same = read_is (before ++ form ∷ [], end.0) (x, rest) end.2 in
      let o = operation_found operations opened.0 q.0.0 q.0.1 q.1 in
      let free = is_false (is_one_of (named_in before) q.0.0) (provided_is (not (is_one_of (named_in before) q.0.0)) q.0.0 new.0 new.1).0 in
      let all = undos_found before q.0.0 (operation_within operations o.bytes q.0.0 o.is) behind.0 u.0.0 u.0.1 u.1 in
      let any = loose_found (word_at words.By u.0.1) u.0.1 b.0.0 b.0.1 refl b.1 in
      along (IsHoldItem operations before) ws _ x _ rest _
      (word_found words.Hold ws opened.0 opened.1 ∙ ap (λ r. word words.Hold ∷ r) (o.stands ∙ ap (λ r. identifier o.bytes ∷ r) (word_found words.Until q.0.1 behind.0 behind.1)))
      same.0 same.1 (a_hold o.is free all (subst (λ r. IsLoose u.0.1 b.0.0 r) (symbol_found symbols.Semicolon b.0.1 end.0 end.1) any))

  hold_read : (before : List HoldForm) (ws : List Lexeme) (x : List HoldForm) (rest : List Lexeme) → length ws < most → IsHoldItem operations before ws x rest → hold_in operations before ws ≡ Some (x, rest)
  unfolding hold_in loose_in
  hold_read before ws x rest long (a_hold {own = own} {op = op} {all = all} {any = any} {ws = us} {vs = vs} is free ends by) =
      rw (
        operation_read operations own op (word words.Until ∷ us) is,
        free,
        undos_read before op (operation_within operations own op is) us all vs (omega arith) ends,
        loose_read vs any (symbol symbols.Semicolon ∷ rest) by,
      ) refl

  hold_shorter : (before : List HoldForm) (ws : List Lexeme) (x : List HoldForm) (rest : List Lexeme) → IsHoldItem operations before ws x rest → length rest ≤ length ws
  hold_shorter before ws x rest (a_hold {own = own} {op = op} {all = all} {any = any} {ws = us} {vs = vs} is free ends by) =
      omega (arith, undos_shorter before op (operation_within operations own op is) us all vs ends, loose_shorter vs any (symbol symbols.Semicolon ∷ rest) by)

  hold_exact : (before : List HoldForm) → Exact most (IsHoldItem operations before) (hold_in operations before)
  hold_exact before = record {
    found = λ ws x rest h. hold_found before ws x rest h;
    read = λ ws x rest long h. hold_read before ws x rest long h;
    shorter = λ ws x rest h. hold_shorter before ws x rest h;
  }

  -- holds, of which so many may begin
  pub holds_exact : (left : ℕ) (before : List HoldForm) → Exact most (IsSeries (IsHoldItem operations) (begins_word words.Hold) left before) (series_at (hold_in operations) (begins_word words.Hold) left before)
  holds_exact left before = series_exact most (IsHoldItem operations) (hold_in operations) (begins_word words.Hold) hold_exact left before

  module _ (holds : List HoldForm) where
    every_found : (before : List EveryForm) (ws : List Lexeme) (x : List EveryForm) (rest : List Lexeme) → every_in operations holds before ws ≡ Some (x, rest) → IsEveryItem operations holds before ws x rest
    unfolding every_in
    every_found before ws x rest h =
        let opened = bind_some (word_at words.Every ws) _ (x, rest) h in
        let n = bind_some (number_at opened.0) _ (x, rest) opened.2 in
        let seconds = bind_some (seconds_of n.0.0) _ (x, rest) n.2 in
        let named = bind_some (word_at words.Call n.0.1) _ (x, rest) seconds.2 in
        let q = bind_some (operation_at operations named.0) _ (x, rest) named.2 in
        let new = bind_some (provided (not (is_one_of (ending_in holds) q.0.0 || is_one_of (called_in before) q.0.0)) q.0.0) _ (x, rest) q.2 in
        let bare = bind_some (provided (is_bare operations q.0.0) new.0) _ (x, rest) new.2 in
        let end = bind_some (symbol_at symbols.Semicolon q.0.1) _ (x, rest) bare.2 in
        let form : EveryForm = record { seconds = seconds.0; op = q.0.0 } in
        let same = read_is (before ++ form ∷ [], end.0) (x, rest) end.2 in
        let o = operation_found operations named.0 q.0.0 q.0.1 q.1 in
        let within = provided_is (nat_le 1 n.0.0 && nat_le n.0.0 86400) n.0.0 seconds.0 seconds.1 in
        let both = both_are (nat_le 1 n.0.0) (nat_le n.0.0 86400) within.0 in
        let tested = provided_is (not (is_one_of (ending_in holds) q.0.0 || is_one_of (called_in before) q.0.0)) q.0.0 new.0 new.1 in
        let free = neither_is (is_one_of (ending_in holds) q.0.0) (is_one_of (called_in before) q.0.0) (is_false _ tested.0) in
        let fits = bare_found operations q.0.0 (slice_get operations q.0.0) refl (provided_is (is_bare operations q.0.0) new.0 bare.0 bare.1).0 in
        let first : EveryForm = record { seconds = n.0.0; op = q.0.0 } in
        let counted : before ++ first ∷ [] ≡ x = ap (λ k. let f : EveryForm = record { seconds = k; op = q.0.0 } in before ++ f ∷ []) within.1 ∙ same.0 in
        along (IsEveryItem operations holds before) ws _ x _ rest _
        (word_found words.Every ws opened.0 opened.1 ∙ ap (λ r. word words.Every ∷ r) (number_front opened.0 n.0 n.1 ∙ ap (λ r. number_lexeme n.0.0 ∷ r)
        (word_found words.Call n.0.1 named.0 named.1 ∙ ap (λ r. word words.Call ∷ r) (o.stands ∙ ap (λ r. identifier o.bytes ∷ r) (symbol_found symbols.Semicolon q.0.1 end.0 end.1)))))
        counted same.1 (an_every (at_most 1 n.0.0 both.0) (at_most n.0.0 86400 both.1) o.is free.1 (record { bare = fits; ends_none = free.0 }))

    every_read : (before : List EveryForm) (ws : List Lexeme) (x : List EveryForm) (rest : List Lexeme) → IsEveryItem operations holds before ws x rest → every_in operations holds before ws ≡ Some (x, rest)
    unfolding every_in
    every_read before ws x rest (an_every {n = n} {own = own} {op = op} low high is free fits) =
        let test : is_bare operations op ≡ true = bare_read operations op (slice_get operations op) refl fits.bare in
        rw (
          is_at_most 1 n low,
          is_at_most n 86400 high,
          operation_read operations own op (symbol symbols.Semicolon ∷ rest) is,
          fits.ends_none,
          free,
          test,
        ) refl

    every_shorter : (before : List EveryForm) (ws : List Lexeme) (x : List EveryForm) (rest : List Lexeme) → IsEveryItem operations holds before ws x rest → length rest ≤ length ws
    every_shorter before ws x rest (an_every low high is free fits) = omega arith

    every_exact : (before : List EveryForm) → Exact most (IsEveryItem operations holds before) (every_in operations holds before)
    every_exact before = record {
      found = λ ws x rest h. every_found before ws x rest h;
      read = λ ws x rest long h. every_read before ws x rest h;
      shorter = λ ws x rest h. every_shorter before ws x rest h;
    }

    -- what is called again and again, of which so many may begin
    pub everies_exact : (left : ℕ) (before : List EveryForm) → Exact most (IsSeries (IsEveryItem operations holds) (begins_word words.Every) left before) (series_at (every_in operations holds) (begins_word words.Every) left before)
    everies_exact left before = series_exact most (IsEveryItem operations holds) (every_in operations holds) (begins_word words.Every) every_exact left before
