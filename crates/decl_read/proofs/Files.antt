-- Objects and files are read exactly.
use Rattle.std.proofs.Common.{◌≡◌, ℕ, ◌<◌, ◌≤◌, true, false, not, List, [], ◌∷◌, ◌++◌, length, map, Some, None, refl, sym, ap, subst, ◌∙◌, arith}
use Rattle.path_tree.specs.declared.token.Token.{Token}
use Rattle.path_tree.specs.declared.token.Symbol.TheVariants as symbols
use Rattle.path_tree.specs.Lexeme.{Lexeme, lexemes, symbol, number, identifier, string, end_mark}
use Rattle.path_tree.specs.Reading.{symbol_at}
use Rattle.path_tree.proofs.Found.{symbol_found}
use Rattle.decl_read.specs.declared.collect.Opening.TheVariants as openings
use Rattle.decl_core.specs.declared.object.Object.{Object}
use Rattle.decl_core.specs.ObjectMap.{object_of, objects_of, object_names}
use Rattle.token_read.specs.Names.{is_among, name_at}
use Rattle.decl_core.specs.ObjectForm.{ObjectForm}
use Rattle.token_read.specs.Series.{IsSeries, series_at}
use Rattle.decl_read.specs.Declarations.{IsEntry, IsObject, object, IsNextObject, next_object, IsFile, file, entry_names}
use Rattle.decl_parts.specs.Declarations.{begins}
use Rattle.decl_read.specs.DeclarationReading.{contents_in, next_object_in, end_at, file_in}
use Rattle.token_read.proofs.Exact.{Exact, bind_some, read_is, series_exact}
use Rattle.decl_parts.proofs.Fronts.{name_front, provided_is, is_false, along}
use Rattle.decl_parts.proofs.ConstantsExact.{constants_exact}
use Rattle.decl_parts.proofs.PathItems.{paths_exact}
use Rattle.decl_parts.proofs.PartsExact.{parts_exact}
use Rattle.decl_read.proofs.Entries.{entries_exact}
use Rattle.decl_read.proofs.Lengths.{behind_exact}

module _ (most : ℕ) where
  -- an object behind its word, its name and the semicolon
  record ContentsRead (bytes : List ℕ) (ws : List Lexeme) (x : ObjectForm) (rest : List Lexeme) : Type 0 where
    is : IsObject (symbol symbols.Object ∷ identifier bytes ∷ symbol symbols.Semicolon ∷ ws) x rest
    named : x.name ≡ bytes

  contents_found : (bytes : List ℕ) (ws : List Lexeme) (x : ObjectForm) (rest : List Lexeme) → contents_in most bytes ws ≡ Some (x, rest) → ContentsRead bytes ws x rest
  unfolding contents_in
  contents_found bytes ws x rest h =
      let names : List (List ℕ) = entry_names openings.Nothing ws in
      let c = bind_some _ _ (x, rest) h in
      let q = bind_some _ _ (x, rest) c.2 in
      let p = bind_some _ _ (x, rest) q.2 in
      let o = bind_some _ _ (x, rest) p.2 in
      let end = bind_some _ _ (x, rest) o.2 in
      let last = bind_some _ _ (x, rest) end.2 in
      let form : ObjectForm = record { name = bytes; parts = p.0.0; paths = q.0.0; operations = o.0.0 } in
      let same = read_is (form, last.0) (x, rest) last.2 in
      let closing : o.0.1 ≡ symbol symbols.End ∷ symbol symbols.Semicolon ∷ last.0 = symbol_found symbols.End o.0.1 end.0 end.1 ∙ ap (λ r. symbol symbols.End ∷ r) (symbol_found symbols.Semicolon end.0 last.0 last.1) in
      let operations = (entries_exact most c.0.0 p.0.0 32 []).found p.0.1 o.0.0 o.0.1 o.1 in
      record {
        is = along IsObject _ _ x form rest last.0 refl same.0 same.1
            (object ((constants_exact most 16 []).found ws c.0.0 c.0.1 c.1) ((paths_exact c.0.0 names most 16 []).found c.0.1 q.0.0 q.0.1 q.1) ((parts_exact most c.0.0 16 []).found q.0.1 p.0.0 p.0.1 p.1)
            (subst (λ r. IsSeries (IsEntry c.0.0 p.0.0) (begins symbols.Entry) 32 [] p.0.1 o.0.0 r) closing operations));
        named = ap (λ (o : ObjectForm). o.name) (sym same.0);
      }

  object_shorter : (ws : List Lexeme) (x : ObjectForm) (rest : List Lexeme) → IsObject ws x rest → length rest ≤ length ws
  object_shorter ws x rest (object {constants = constants} {paths = paths} {parts = parts} {operations = operations} {ws = inside} {us = us} {vs = vs} {ys = ys} cs qs ps os) =
      let a = (constants_exact most 16 []).shorter inside constants us cs in
      let b = (paths_exact constants (entry_names openings.Nothing inside) most 16 []).shorter us paths vs qs in
      let c = (parts_exact most constants 16 []).shorter vs parts ys ps in
      let d = (entries_exact most constants parts 32 []).shorter ys operations (symbol symbols.End ∷ symbol symbols.Semicolon ∷ rest) os in
      omega arith

  contents_read : (bytes : List ℕ) (ws : List Lexeme) (x : ObjectForm) (rest : List Lexeme) → length ws < most → IsObject (symbol symbols.Object ∷ identifier bytes ∷ symbol symbols.Semicolon ∷ ws) x rest → contents_in most bytes ws ≡ Some (x, rest)
  unfolding contents_in
  contents_read bytes ws x rest long (object {constants = constants} {paths = paths} {parts = parts} {operations = operations} {us = us} {vs = vs} {ys = ys} cs qs ps os) =
      let a = (constants_exact most 16 []).shorter ws constants us cs in
      let b = (paths_exact constants (entry_names openings.Nothing ws) most 16 []).shorter us paths vs qs in
      let c = (parts_exact most constants 16 []).shorter vs parts ys ps in
      rw ((constants_exact most 16 []).read ws constants us long cs, (paths_exact constants (entry_names openings.Nothing ws) most 16 []).read us paths vs (omega arith) qs, (parts_exact most constants 16 []).read vs parts ys (omega arith) ps, (entries_exact most constants parts 32 []).read ys operations (symbol symbols.End ∷ symbol symbols.Semicolon ∷ rest) (omega arith) os) refl

  next_found : (before : List ObjectForm) (ws : List Lexeme) (x : List ObjectForm) (rest : List Lexeme) → next_object_in most before ws ≡ Some (x, rest) → IsNextObject before ws x rest
  unfolding next_object_in
  next_found before ws x rest h =
      let opened = bind_some _ _ (x, rest) h in
      let q = bind_some _ _ (x, rest) opened.2 in
      let new = bind_some _ _ (x, rest) q.2 in
      let behind = bind_some _ _ (x, rest) new.2 in
      let o = bind_some _ _ (x, rest) behind.2 in
      let same = read_is (before ++ o.0.0 ∷ [], o.0.1) (x, rest) o.2 in
      let tested = provided_is (not (is_among (map (λ (o : ObjectForm). o.name) before) q.0.0)) q.0.0 new.0 new.1 in
      let c = contents_found q.0.0 behind.0 o.0.0 o.0.1 o.1 in
      let stands : ws ≡ symbol symbols.Object ∷ identifier q.0.0 ∷ symbol symbols.Semicolon ∷ behind.0 =
      symbol_found symbols.Object ws opened.0 opened.1 ∙ ap (λ r. symbol symbols.Object ∷ r) (name_front opened.0 q.0 q.1 ∙ ap (λ r. identifier q.0.0 ∷ r) (symbol_found symbols.Semicolon q.0.1 behind.0 behind.1)) in
      let free : is_among (map (λ (o : ObjectForm). o.name) before) o.0.0.name ≡ false = ap (is_among (map (λ (o : ObjectForm). o.name) before)) c.named ∙ is_false _ tested.0 in
      along (IsNextObject before) ws _ x _ rest o.0.1 stands same.0 same.1 (next_object c.is free)

  read_inside : (before : List ObjectForm) (bytes : List ℕ) (ws : List Lexeme) (o : ObjectForm) (rest : List Lexeme) → is_among (map (λ (o : ObjectForm). o.name) before) bytes ≡ false → contents_in most bytes ws ≡ Some (o, rest) →
      next_object_in most before (symbol symbols.Object ∷ identifier bytes ∷ symbol symbols.Semicolon ∷ ws) ≡ Some (before ++ o ∷ [], rest)
  unfolding next_object_in
  read_inside before bytes ws o rest free read = rw (free, read) refl

  read_object : (before : List ObjectForm) (ws : List Lexeme) (o : ObjectForm) (rest : List Lexeme) → length ws < most → IsObject ws o rest → is_among (map (λ (o : ObjectForm). o.name) before) o.name ≡ false → next_object_in most before ws ≡ Some (before ++ o ∷ [], rest)
  read_object before ws o rest long (object {bytes = bytes} {ws = us} cs qs ps os) free =
      read_inside before bytes us o rest free (contents_read bytes us o rest (omega arith) (object cs qs ps os))

  next_read : (before : List ObjectForm) (ws : List Lexeme) (x : List ObjectForm) (rest : List Lexeme) → length ws < most → IsNextObject before ws x rest → next_object_in most before ws ≡ Some (x, rest)
  next_read before ws x rest long (next_object {o = o} is free) = read_object before ws o rest long is free

  next_shorter : (before : List ObjectForm) (ws : List Lexeme) (x : List ObjectForm) (rest : List Lexeme) → IsNextObject before ws x rest → length rest ≤ length ws
  next_shorter before ws x rest (next_object {o = o} is free) = object_shorter ws o rest is

  next_exact : (before : List ObjectForm) → Exact most (IsNextObject before) (next_object_in most before)
  next_exact before = record {
    found = λ ws x rest h. next_found before ws x rest h;
    read = λ ws x rest long h. next_read before ws x rest long h;
    shorter = λ ws x rest h. next_shorter before ws x rest h;
  }

  objects_exact : Exact most (IsSeries IsNextObject (begins symbols.Object) 16 []) (series_at (next_object_in most) (begins symbols.Object) 16 [])
  objects_exact = series_exact most IsNextObject (next_object_in most) (begins symbols.Object) next_exact 16 []

  end_front : (ws : List Lexeme) → end_at ws ≡ true → ws ≡ end_mark ∷ []
  end_front [] h = absurd cc
  end_front (end_mark ∷ []) h = refl
  end_front (end_mark ∷ w ∷ ws) h = absurd cc
  end_front (symbol s ∷ ws) h = absurd cc
  end_front (number n ∷ ws) h = absurd cc
  end_front (identifier bytes ∷ ws) h = absurd cc
  end_front (string bytes ∷ ws) h = absurd cc

  -- what is read from a whole source is a file
  pub file_found : (ws : List Lexeme) (objects : List ObjectForm) → file_in most ws ≡ Some objects → IsFile ws objects
  unfolding file_in
  file_found ws objects h =
      let x = bind_some _ _ objects h in
      let ended = provided_is (end_at x.0.1) x.0.0 objects x.2 in
      let end = end_front x.0.1 ended.0 in
      let all = objects_exact.found ws x.0.0 x.0.1 x.1 in
      subst (λ o. IsFile ws o) ended.1 (file (subst (λ r. IsSeries IsNextObject (begins symbols.Object) 16 [] ws x.0.0 r) end all))

  -- a file is read
  pub file_read : (ws : List Lexeme) (objects : List ObjectForm) → length ws < most → IsFile ws objects → file_in most ws ≡ Some objects
  unfolding file_in
  file_read ws objects long (file all) = rw (objects_exact.read ws objects (end_mark ∷ []) long all) refl

  -- what stands behind an object is no longer than what stood before it
  pub behind_object : (before x : List ObjectForm) (tokens rest : List Token) → next_object_in most before (lexemes tokens) ≡ Some (x, lexemes rest) → length rest ≤ length tokens
  behind_object before x tokens rest h = behind_exact most (IsNextObject before) (next_object_in most before) (next_exact before) tokens rest x h

  pub contents_named : (bytes : List ℕ) (ws : List Lexeme) (x : ObjectForm) (rest : List Lexeme) → contents_in most bytes ws ≡ Some (x, rest) → x.name ≡ bytes
  contents_named bytes ws x rest h = (contents_found bytes ws x rest h).named

  -- an object of a name that stands before
  pub next_taken : (before : List ObjectForm) (ws opened : List Lexeme) (q : List ℕ × List Lexeme) → symbol_at symbols.Object ws ≡ Some opened → name_at opened ≡ Some q → is_among (map (λ (o : ObjectForm). o.name) before) q.0 ≡ true → next_object_in most before ws ≡ None
  unfolding next_object_in
  next_taken before ws opened q a b c = rw (a, b, c) refl

  -- an object of a new name
  pub next_given : (before all : List ObjectForm) (ws opened behind rest : List Lexeme) (q : List ℕ × List Lexeme) (o : ObjectForm) → symbol_at symbols.Object ws ≡ Some opened → name_at opened ≡ Some q → is_among (map (λ (o : ObjectForm). o.name) before) q.0 ≡ false →
      symbol_at symbols.Semicolon q.1 ≡ Some behind → contents_in most q.0 behind ≡ Some (o, rest) → all ≡ before ++ o ∷ [] → next_object_in most before ws ≡ Some (all, rest)
  unfolding next_object_in
  next_given before all ws opened behind rest q o a b c d e f = rw (a, b, c, d, e, f) refl

-- the objects so far, and one more
pub objects_pushed : (before : List Object) (o : Object) → objects_of (before ++ o ∷ []) ≡ objects_of before ++ object_of o ∷ []
objects_pushed [] o = refl
objects_pushed (x ∷ before) o = ap (λ xs. object_of x ∷ xs) (objects_pushed before o)

pub names_of_forms : (objects : List Object) → object_names objects ≡ map (λ (o : ObjectForm). o.name) (objects_of objects)
names_of_forms [] = refl
names_of_forms (x ∷ objects) = ap (λ xs. x.name ∷ xs) (names_of_forms objects)
