use Rattle.std.proofs.Common.{◌≡◌, ◌≢◌, ◌++◌, List, ℕ, [], ◌∷◌, length, refl, sym, ap, subst, ◌∙◌, arith, rules}
use Rattle.std.specs.Prelude.{All}
use Rattle.std.specs.FinMap as map
use Rattle.std.proofs.lemmas.List.Elements.{All-nil}
use Rattle.value_core.specs.declared.datum.Datum.{Datum}
use Rattle.value_core.specs.Contents.{IsRowIn}
use Rattle.value_core.specs.TextOrder.{text_cmp}
use Rattle.value_bytes.specs.Spelling.{spelled_row_in, IsAfter}
use Rattle.value_core.specs.Rows.{rows_map}
use Rattle.value_core.proofs.Tables.{none_of}
use Rattle.value_bytes.proofs.Decoding.{read_more, All-push, length-push}
use Rattle.value_bytes.proofs.Rising.{put_behind, no_next_row, no_rise, no_more_rows}
use Rattle.value_bytes.proofs.decode.decode_rows.Goals as goal

none_read : (m : map.FinMap text_cmp Datum) → m ≡ map.empty → map.entries m ≡ []
none_read m is = ap (λ n. map.entries n) is ∙ none_of

pub loop-place-init : goal.loop-place-init
loop-place-init c =
    let none : map.entries (rows_map c.new-rows.result) ≡ [] = none_read (rows_map c.new-rows.result) c.new-rows.ensures.data in
    record {
      sort = c.new-rows.ensures.sort;
      each = subst (All (IsRowIn c.args.format c.args.sort)) (sym none) (All-nil (IsRowIn c.args.format c.args.sort));
      many = map.len-entries (rows_map c.new-rows.result) ∙ ap length none;
      last = none;
      parts = rw none refl;
    }

pub returns-in_default-clause-damaged : goal.returns-in_default-clause-damaged
returns-in_default-clause-damaged c = λ _.
    let m = rows_map c.loop-place.rows in
    no_next_row c.args.format c.args.bytes.now c.loop-place.rest.now c.args.sort c.args.count (map.entries m) c.loop-place.invariant.each
    (omega (arith, map.len-entries m, c.loop-place.invariant.many)) c.loop-place.invariant.parts c.in_default.ensures.none

pub returns-then-not-rises-clause-damaged : goal.returns-then-not-rises-clause-damaged
returns-then-not-rises-clause-damaged c = λ _.
    let m = rows_map c.loop-place.rows in
    let no_after : IsAfter c.loop-place.last c.in-Some.row.0 → ⊥ = search rules in
    no_rise c.args.format c.args.bytes.now c.loop-place.rest.now c.in-Some.row.2.now c.args.sort c.args.count (map.entries m) c.loop-place.last c.in-Some.row.0 c.in-Some.row.1 c.loop-place.invariant.each
    (omega (arith, map.len-entries m, c.loop-place.invariant.many)) c.loop-place.invariant.parts c.loop-place.invariant.last c.in-Some.ensures.some.0 c.in-Some.ensures.some.1 no_after

pub loop-place-preserved : goal.loop-place-preserved
loop-place-preserved c =
    let m = rows_map c.loop-place.rows in
    let row : List ℕ × Datum = (c.in-Some.row.0, c.in-Some.row.1) in
    let after : IsAfter c.loop-place.last c.in-Some.row.0 = search rules in
    let same : map.entries (rows_map c.insert.new.self) ≡ map.entries m ++ row ∷ [] =
    ap (λ n. map.entries n) c.in_ok-insert.ensures.ok ∙ put_behind m c.loop-place.last c.in-Some.row.0 c.in-Some.row.1 c.loop-place.invariant.last after in
    let many : length (map.entries m) ≡ c.loop-place.place = sym (map.len-entries m) ∙ c.loop-place.invariant.many in
    record {
      sort = c.in_ok-insert.ensures.sort ∙ c.loop-place.invariant.sort;
      each = subst (All (IsRowIn c.args.format c.args.sort)) (sym same) (All-push (IsRowIn c.args.format c.args.sort) (map.entries m) row c.loop-place.invariant.each c.in-Some.ensures.some.0);
      many = map.len-entries (rows_map c.insert.new.self) ∙ ap length same ∙ length-push (map.entries m) row c.loop-place.place many;
      last = (map.entries m, c.in-Some.row.1, same);
      parts = rw same (read_more (spelled_row_in c.args.format) _ _ _ (map.entries m) row c.loop-place.invariant.parts c.in-Some.ensures.some.1);
    }

pub returns-then-not-is_empty-clause-damaged : goal.returns-then-not-is_empty-clause-damaged
returns-then-not-is_empty-clause-damaged c = λ _.
    let m = rows_map c.loop-place.rows in
    let some : c.loop-place.rest.now ≢ [] = search rules in
    no_more_rows c.args.format c.args.bytes.now c.loop-place.rest.now c.args.sort c.args.count (map.entries m) c.loop-place.invariant.each
    (omega (arith, map.len-entries m, c.loop-place.invariant.many)) c.loop-place.invariant.parts some
