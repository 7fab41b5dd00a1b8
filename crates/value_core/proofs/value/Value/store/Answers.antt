use Rattle.std.proofs.Common.{◌≡◌, true, inl, inr, sym, ap, subst, ◌∙◌, arith}
use Rattle.std.specs.Prelude.{◌||◌, nat_lt}
use Rattle.std.specs.FinMap as map
use Rattle.value_core.specs.Limits.{most_elements}
use Rattle.value_core.specs.Rows.{rows_sort, rows_map}
use Rattle.value_core.specs.Contents.{AreRows, IsContents, IsRow, kind_of}
use Rattle.value_core.specs.Kinds.{sort_of}
use Rattle.value_core.specs.Body.{contents_of}
use Rattle.value_core.proofs.TableRows.{made_room, rows_stored}
use Rattle.value_core.proofs.value.Value.store.Goals as goal
use Rattle.value_core.proofs.value.Value.store.Goals.{else-len-via-then-len+else-not-has, else-len-via-else-len}

pub invariant_of-self-2 : goal.invariant_of-self-2
invariant_of-self-2 c =
    let rows : AreRows (rows_sort c.in-Table.rows) (rows_map c.in-Table.rows) = subst (λ b. IsContents (contents_of b)) c.in-Table.is c.self.invariant in
    let row : IsRow (rows_sort c.in-Table.rows) (c.args.key, c.args.datum) = record {
      key = c.bytes-bytes.ensures.text;
      element = record { sort = c.requires.sort ∙ ap (λ v. sort_of (kind_of v)) (sym c.self.view_is ∙ ap contents_of c.in-Table.is); datum = c.elem-sort.ensures.datum };
    } in
    let room : map.contains_key (rows_map c.in-Table.rows) c.args.key || nat_lt (map.len (rows_map c.in-Table.rows)) most_elements ≡ true =
    made_room (map.contains_key (rows_map c.in-Table.rows) c.args.key) (map.len (rows_map c.in-Table.rows)) (elim c.else-len.branch [
      | else-len-via-then-len+else-not-has w ↦ inl (sym w.has.ensures ∙ w.if-not-has.false)
      | else-len-via-else-len w ↦ inr (omega (arith, w.if-len.false, c.len.ensures))
    ]) in
    rw (c.in_ok-undo.ensures.sort, c.in_ok-undo.ensures.ok) (rows_stored _ _ c.args.key c.args.datum rows row room)
