-- Entries that are walked one after another.
use Rattle.std.proofs.Common.{◌≡◌, ◌≢◌, ℕ, ◌+◌, ◌<◌, List, [], ◌∷◌, ◌++◌, Option, Some, None, length, refl, sym, ap, ◌∙◌, subst, arith}
use Rattle.std.specs.Prelude.{All}
use Rattle.std.specs.List.{flat_map}
use Rattle.std.specs.FinMap as map
use Rattle.std.proofs.lemmas.List.{append-nil}
use Rattle.std.proofs.lemmas.List.Elements.{All-nil}
use Rattle.value_core.specs.TextOrder.{text_cmp}
use Rattle.value_core.specs.declared.format.Format.TheVariants.{Second}
use Rattle.value_core.specs.declared.datum.Datum.{Datum}
use Rattle.value_core.specs.declared.kind.Elem.{Elem}
use Rattle.value_core.specs.Datum.{IsElement}
use Rattle.value_core.specs.Contents.{IsRow}
use Rattle.value_bytes.specs.Spelling.{spelled_datum, spelled_row, SpellElements, SpellRows, IsAfter}
use Rattle.value_core.proofs.Tables.{none_of}
use Rattle.value_bytes.proofs.Decoding.{read_more, All-push, length-push, no_next, no_more}
use Rattle.value_bytes.proofs.Rising.{EndsWith, put_behind, no_next_row, no_rise, no_more_rows}

-- so many elements stand before the rest
pub record SoFar (bytes rest : List ℕ) (e : Elem) (count : ℕ) : Type 0 where
  pub xs : List Datum
  pub each : All (IsElement e) xs
  pub many : length xs ≡ count
  pub parts : bytes ≡ flat_map spelled_datum xs ++ rest

pub none_yet : (bytes : List ℕ) (e : Elem) → SoFar bytes bytes e 0
none_yet bytes e = record { xs = []; each = All-nil (IsElement e); many = refl; parts = refl }

pub one_more : (bytes rest behind : List ℕ) (e : Elem) (count : ℕ) (d : Datum) → SoFar bytes rest e count → IsElement e d → rest ≡ spelled_datum d ++ behind → SoFar bytes behind e (count + 1)
one_more bytes rest behind e count d so is front =
    record { xs = so.xs ++ d ∷ []; each = All-push (IsElement e) so.xs d so.each is; many = length-push so.xs d count so.many; parts = read_more spelled_datum bytes rest behind so.xs d so.parts front }

pub no_one_more : (bytes rest : List ℕ) (e : Elem) (place count : ℕ) → SoFar bytes rest e place → place < count → ((d : Datum) (r : List ℕ) → IsElement e d → rest ≢ spelled_datum d ++ r)
    → (ys : List Datum) → SpellElements Second bytes e count ys → ⊥
no_one_more bytes rest e place count so less none = no_next Second bytes rest e count so.xs so.each (omega (arith, less, so.many)) so.parts none

pub all_elements : (bytes rest : List ℕ) (e : Elem) (place count : ℕ) → SoFar bytes rest e place → place ≡ count → rest ≡ [] → (xs : List Datum) × SpellElements Second bytes e count xs
all_elements bytes rest e place count so all is =
    (so.xs, record { each = so.each; many = so.many ∙ all; spelled = so.parts ∙ ap (λ (r : List ℕ). flat_map spelled_datum so.xs ++ r) is ∙ append-nil (flat_map spelled_datum so.xs) })

pub too_many : (bytes rest : List ℕ) (e : Elem) (place count : ℕ) → SoFar bytes rest e place → place ≡ count → (rest ≡ [] → ⊥) → (ys : List Datum) → SpellElements Second bytes e count ys → ⊥
too_many bytes rest e place count so all some = no_more Second bytes rest e count so.xs so.each (so.many ∙ all) so.parts some

-- so many rows stand before the rest, and the last one has this key
pub record RowsSoFar (bytes rest : List ℕ) (e : Elem) (count : ℕ) (last : Option (List ℕ)) : Type 0 where
  pub m : map.FinMap text_cmp Datum
  pub each : All (IsRow e) (map.entries m)
  pub many : length (map.entries m) ≡ count
  pub ends : EndsWith (map.entries m) last
  pub parts : bytes ≡ flat_map spelled_row (map.entries m) ++ rest

pub no_row_yet : (bytes : List ℕ) (e : Elem) → RowsSoFar bytes bytes e 0 None
no_row_yet bytes e =
    record { m = map.empty; each = subst (All (IsRow e)) (sym none_of) (All-nil (IsRow e)); many = ap length none_of; ends = none_of; parts = ap (λ (es : List (List ℕ × Datum)). flat_map spelled_row es ++ bytes) (sym none_of) }

pub one_row_more : (bytes rest behind : List ℕ) (e : Elem) (count : ℕ) (last : Option (List ℕ)) (key : List ℕ) (d : Datum) → RowsSoFar bytes rest e count last → IsRow e (key, d) → rest ≡ spelled_row (key, d) ++ behind → IsAfter last key
    → RowsSoFar bytes behind e (count + 1) (Some key)
one_row_more bytes rest behind e count last key d so is front after =
    let es = map.entries so.m in
    let same : map.entries (map.insert so.m key d) ≡ es ++ (key, d) ∷ [] = put_behind so.m last key d so.ends after in
    record {
      m = map.insert so.m key d;
      each = subst (All (IsRow e)) (sym same) (All-push (IsRow e) es (key, d) so.each is);
      many = ap length same ∙ length-push es (key, d) count so.many;
      ends = (es, d, same);
      parts = read_more spelled_row bytes rest behind es (key, d) so.parts front ∙ ap (λ (fs : List (List ℕ × Datum)). flat_map spelled_row fs ++ behind) (sym same);
    }

pub no_row_more : (bytes rest : List ℕ) (e : Elem) (place count : ℕ) (last : Option (List ℕ)) → RowsSoFar bytes rest e place last → place < count → ((row : List ℕ × Datum) (r : List ℕ) → IsRow e row → rest ≢ spelled_row row ++ r)
    → (m : map.FinMap text_cmp Datum) → SpellRows Second bytes e count m → ⊥
no_row_more bytes rest e place count last so less none = no_next_row Second bytes rest e count (map.entries so.m) so.each (omega (arith, less, so.many)) so.parts none

pub does_not_rise : (bytes rest behind : List ℕ) (e : Elem) (place count : ℕ) (last : Option (List ℕ)) (key : List ℕ) (d : Datum) → RowsSoFar bytes rest e place last → place < count → IsRow e (key, d) → rest ≡ spelled_row (key, d) ++ behind
    → (IsAfter last key → ⊥) → (m : map.FinMap text_cmp Datum) → SpellRows Second bytes e count m → ⊥
does_not_rise bytes rest behind e place count last key d so less is front no_after =
    no_rise Second bytes rest behind e count (map.entries so.m) last key d so.each (omega (arith, less, so.many)) so.parts so.ends is front no_after

pub all_rows : (bytes rest : List ℕ) (e : Elem) (place count : ℕ) (last : Option (List ℕ)) → RowsSoFar bytes rest e place last → place ≡ count → rest ≡ [] → (m : map.FinMap text_cmp Datum) × SpellRows Second bytes e count m
all_rows bytes rest e place count last so all is =
    let es = map.entries so.m in
    (so.m, record { each = so.each; many = map.len-entries so.m ∙ so.many ∙ all; spelled = so.parts ∙ ap (λ (r : List ℕ). flat_map spelled_row es ++ r) is ∙ append-nil (flat_map spelled_row es) })

pub too_many_rows : (bytes rest : List ℕ) (e : Elem) (place count : ℕ) (last : Option (List ℕ)) → RowsSoFar bytes rest e place last → place ≡ count → (rest ≡ [] → ⊥) → (m : map.FinMap text_cmp Datum) → SpellRows Second bytes e count m → ⊥
too_many_rows bytes rest e place count last so all some = no_more_rows Second bytes rest e count (map.entries so.m) so.each (so.many ∙ all) so.parts some
