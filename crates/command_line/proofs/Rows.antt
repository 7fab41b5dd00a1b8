-- What is found under a name, as uses and defaults are added.
use Rattle.std.proofs.Common.{◌≡◌, ◌∙◌, ◌++◌, ◌&&◌, ◌||◌, cond, not, Bool, true, false, List, [], ◌∷◌, Option, Some, None, is_some, find, fold, refl, sym, ap, subst, bytes_eq, arith, suc, length, option_map}
use Rattle.std.proofs.lemmas.Bool.{ne_eqb}
use Rattle.std.specs.Option.{option_or}
use Rattle.std.proofs.lemmas.List.{append-nil}
use Rattle.std.proofs.lemmas.List.Folds.{find-append}
use Rattle.std.proofs.lemmas.Slice.Eq.{bytes_eq-Decides}
use Rattle.clap.specs.Walk.{Row, Rule, Text, at_row, default_rows, has_row, is_empty, more_values, reading_by, stronger, with_default, with_values, without}
use Rattle.clap.specs.declared.builder.value_parser.Reading.{Reading}
use Rattle.clap.specs.declared.builder.value_parser.Reading.TheVariants.{AsWritten}
use Rattle.clap.specs.declared.parser.matches.ValueSource.{ValueSource}
use Rattle.clap.specs.declared.parser.matches.ValueSource.TheVariants.{DefaultValue, CommandLine}

-- the first row of this name
abbrev pub seen : Text → List Row → Option Row
seen id rows = find (λ r. bytes_eq r.id id) rows

-- a row with these values
abbrev pub row_with : ValueSource → Text → Reading → List Text → Row
row_with s id how values = record { id = id; values = values; count = None; source = Some s; reading = how }

pub some_none : {X : Type 0} (x : X) → Some x ≡ None → ⊥
some_none x e = cc

pub same : (x : Text) → bytes_eq x x ≡ true
same x = (bytes_eq-Decides x x).1 refl

or_none : {X : Type 0} (o : Option X) → option_or o None ≡ o
or_none None = refl
or_none (Some x) = refl

pub seen_other : (y : Text) (r : Row) (rows : List Row) → bytes_eq r.id y ≡ false → seen y (rows ++ r ∷ []) ≡ seen y rows
seen_other y r rows differs =
    find-append (λ (x : Row). bytes_eq x.id y) rows (r ∷ []) ∙ ap (λ b. option_or (seen y rows) (cond b (Some r) None)) differs ∙ or_none (seen y rows)

pub seen_new : (y : Text) (r : Row) (rows : List Row) → bytes_eq r.id y ≡ true → seen y rows ≡ None → seen y (rows ++ r ∷ []) ≡ Some r
seen_new y r rows is none =
    find-append (λ (x : Row). bytes_eq x.id y) rows (r ∷ []) ∙ ap (λ b. option_or (seen y rows) (cond b (Some r) None)) is ∙ ap (λ o. option_or o (Some r)) none

pub any_found : (y : Text) (rows : List Row) → has_row y rows ≡ is_some (seen y rows)
any_found y [] = refl
any_found y (r ∷ rows) = go (bytes_eq r.id y) (any_found y rows)
  where
    go : (b : Bool) → has_row y rows ≡ is_some (seen y rows) → (b || has_row y rows) ≡ is_some (cond b (Some r) (seen y rows))
    go true rest = refl
    go false rest = rest

pub no_row : (y : Text) (rows : List Row) → seen y rows ≡ None → has_row y rows ≡ false
no_row y rows none = any_found y rows ∙ ap is_some none

at_none : (id : Text) (change : Row → List Row) (missing rows : List Row) → seen id rows ≡ None → at_row id change missing rows ≡ rows ++ missing
at_none id change missing [] none = refl
at_none id change missing (r ∷ rows) none = go (bytes_eq r.id id) none (at_none id change missing rows)
  where
    go : (b : Bool) → cond b (Some r) (seen id rows) ≡ None → (seen id rows ≡ None → at_row id change missing rows ≡ rows ++ missing) → cond b (change r ++ rows) (r ∷ at_row id change missing rows) ≡ r ∷ (rows ++ missing)
    go true e rest = absurd (some_none r e)
    go false e rest = ap (λ t. r ∷ t) (rest e)

pub with_new : (id : Text) (how : Reading) (s : ValueSource) (values : List Text) (rows : List Row) → seen id rows ≡ None
    → with_values id how s values rows ≡ rows ++ row_with s id how values ∷ []
with_new id how s values rows none = at_none id (more_values s values) (row_with s id how values ∷ []) rows none

-- a use of what was not used before
pub used_new : (id : Text) (how : Reading) (values : List Text) (rows : List Row) → seen id rows ≡ None
    → with_values id how CommandLine values (without id rows) ≡ rows ++ row_with CommandLine id how values ∷ []
used_new id how values rows none =
    ap (with_values id how CommandLine values) (at_none id (λ _. []) [] rows none ∙ append-nil rows) ∙ with_new id how CommandLine values rows none

-- ---- what comes again and again

module _ (id : Text) (values : List Text) where
  abbrev more_of : List Row → List Row
  more_of rows = with_values id AsWritten CommandLine values rows

  -- what is found under another name
  pub more_other : (y : Text) (rows : List Row) → bytes_eq id y ≡ false → seen y (more_of rows) ≡ seen y rows
  more_other y [] differs = ap (λ b. cond b (Some (row_with CommandLine id AsWritten values)) None) differs
  more_other y (r ∷ rows) differs = go (bytes_eq r.id id) refl (more_other y rows differs)
    where
      other : bytes_eq r.id id ≡ true → bytes_eq r.id y ≡ false
      other is = ap (λ t. bytes_eq t y) ((bytes_eq-Decides r.id id).0 is) ∙ differs

      go : (b : Bool) → bytes_eq r.id id ≡ b → seen y (more_of rows) ≡ seen y rows
          → seen y (cond b (more_values CommandLine values r ++ rows) (r ∷ more_of rows)) ≡ cond (bytes_eq r.id y) (Some r) (seen y rows)
      go true is rest = ap (λ b. cond b (Some (record r { values = r.values ++ values; source = Some (stronger r.source CommandLine) })) (seen y rows)) (other is)
          ∙ sym (ap (λ b. cond b (Some r) (seen y rows)) (other is))
      go false is rest = ap (λ o. cond (bytes_eq r.id y) (Some r) o) rest

  -- what is found under this one
  pub more_same : (before : List Text) (rows : List Row) → seen id rows ≡ Some (row_with CommandLine id AsWritten before)
      → seen id (more_of rows) ≡ Some (row_with CommandLine id AsWritten (before ++ values))
  more_same before [] is = absurd (some_none _ (sym is))
  more_same before (r ∷ rows) is = go (bytes_eq r.id id) refl is (more_same before rows)
    where
      go : (b : Bool) → bytes_eq r.id id ≡ b → cond b (Some r) (seen id rows) ≡ Some (row_with CommandLine id AsWritten before)
          → (seen id rows ≡ Some (row_with CommandLine id AsWritten before) → seen id (more_of rows) ≡ Some (row_with CommandLine id AsWritten (before ++ values)))
          → seen id (cond b (more_values CommandLine values r ++ rows) (r ∷ more_of rows)) ≡ Some (row_with CommandLine id AsWritten (before ++ values))
      go true here found rest =
          ap (λ b. cond b (Some (record r { values = r.values ++ values; source = Some (stronger r.source CommandLine) })) (seen id rows)) here
          ∙ ap (λ (o : Option Row). option_map (λ (x : Row). record x { values = x.values ++ values; source = Some (stronger x.source CommandLine) }) o) found
      go false here found rest = ap (λ b. cond b (Some r) (seen id (more_of rows))) here ∙ rest found

-- the row of an option that may come again and again
abbrev pub again_row : Text → List Text → Option Row
again_row id [] = None
again_row id (w ∷ ws) = Some (row_with CommandLine id AsWritten (w ∷ ws))

pub again_more : (id w : Text) (ws : List Text) (rows : List Row) → seen id rows ≡ again_row id ws
    → seen id (with_values id AsWritten CommandLine (w ∷ []) rows) ≡ again_row id (ws ++ w ∷ [])
again_more id w [] rows is =
    ap (seen id) (with_new id AsWritten CommandLine (w ∷ []) rows is) ∙ seen_new id (row_with CommandLine id AsWritten (w ∷ [])) rows (same id) is
again_more id w (x ∷ ws) rows is = more_same id (w ∷ []) (x ∷ ws) rows is

-- ---- defaults

-- the row that the defaults of the arguments give a name
abbrev pub default_seen : Text → List Rule → Option Row
default_seen y [] = None
default_seen y (a ∷ rest) = cond (bytes_eq a.id y && not (is_empty a.defaults)) (Some (row_with DefaultValue a.id (reading_by a) a.defaults)) (default_seen y rest)

not_empty : (w : Text) (ws : List Text) → is_empty (w ∷ ws) ≡ false
not_empty w ws = ne_eqb (suc (length ws)) 0 (λ e. omega (arith, e))

given : (w : Text) (ws : List Text) (o : Option Row) (r : Row) → option_or o (cond (not (is_empty (w ∷ ws))) (Some r) None) ≡ option_or o (Some r)
given w ws o r = ap (λ b. option_or o (cond (not b) (Some r) None)) (not_empty w ws)

and_false : (b : Bool) → (b && false) ≡ false
and_false true = refl
and_false false = refl

module _ (y id : Text) (how : Reading) (rows : List Row) where
  kept : (values : List Text) (o : Option Row) (b : Bool) → seen y rows ≡ o → (b ≡ true → is_some (seen y rows) ≡ true)
      → o ≡ option_or o (cond (b && not (is_empty values)) (Some (row_with DefaultValue id how values)) None)
  kept values (Some r) b e has = refl
  kept values None true e has = absurd (own (sym (ap is_some e) ∙ has refl))
    where
      own : false ≡ true → ⊥
      own x = cc
  kept values None false e has = refl

  added : (values : List Text) (b : Bool) → bytes_eq id y ≡ b → seen id rows ≡ None
      → seen y (default_rows id how values rows) ≡ option_or (seen y rows) (cond (b && not (is_empty values)) (Some (row_with DefaultValue id how values)) None)
  added [] b e none = sym (or_none (seen y rows)) ∙ ap (λ t. option_or (seen y rows) (cond t (Some (row_with DefaultValue id how [])) None)) (sym (and_false b))
  added (w ∷ ws) true e none =
      let is : id ≡ y = (bytes_eq-Decides id y).0 e in
      let missing : seen y rows ≡ None = subst (λ t. seen t rows ≡ None) is none in
      ap (seen y) (with_new id how DefaultValue (w ∷ ws) rows none) ∙ seen_new y (row_with DefaultValue id how (w ∷ ws)) rows e missing
      ∙ ap (λ o. option_or o (Some (row_with DefaultValue id how (w ∷ ws)))) (sym missing)
      ∙ sym (given w ws (seen y rows) (row_with DefaultValue id how (w ∷ ws)))
  added (w ∷ ws) false e none =
      ap (seen y) (with_new id how DefaultValue (w ∷ ws) rows none) ∙ seen_other y (row_with DefaultValue id how (w ∷ ws)) rows e ∙ sym (or_none (seen y rows))

  one_default : (values : List Text)
      → seen y (cond (has_row id rows) rows (default_rows id how values rows))
      ≡ option_or (seen y rows) (cond (bytes_eq id y && not (is_empty values)) (Some (row_with DefaultValue id how values)) None)
  one_default values = go (seen id rows) refl
    where
      go : (o : Option Row) → seen id rows ≡ o → seen y (cond (has_row id rows) rows (default_rows id how values rows))
          ≡ option_or (seen y rows) (cond (bytes_eq id y && not (is_empty values)) (Some (row_with DefaultValue id how values)) None)
      go None e = ap (λ b. seen y (cond b rows (default_rows id how values rows))) (no_row id rows e) ∙ added values (bytes_eq id y) refl e
      go (Some r) e = ap (λ b. seen y (cond b rows (default_rows id how values rows))) (any_found id rows ∙ ap is_some e)
          ∙ kept values (seen y rows) (bytes_eq id y) refl
          (λ is. subst (λ t. is_some (seen t rows) ≡ true) ((bytes_eq-Decides id y).0 is) (ap is_some e))

or_cond : (o : Option Row) (b : Bool) (r : Row) (next : Option Row) → option_or (option_or o (cond b (Some r) None)) next ≡ option_or o (cond b (Some r) next)
or_cond (Some x) b r next = refl
or_cond None true r next = refl
or_cond None false r next = refl

-- what is found under a name once the defaults are there
pub seen_at_end : (y : Text) (c : List Rule) (rows : List Row) → seen y (fold with_default rows c) ≡ option_or (seen y rows) (default_seen y c)
seen_at_end y [] rows = sym (or_none (seen y rows))
seen_at_end y (a ∷ rest) rows =
    seen_at_end y rest (with_default rows a)
    ∙ ap (λ o. option_or o (default_seen y rest)) (one_default y a.id (reading_by a) rows a.defaults)
    ∙ or_cond (seen y rows) (bytes_eq a.id y && not (is_empty a.defaults)) (row_with DefaultValue a.id (reading_by a) a.defaults) (default_seen y rest)
