use Rattle.std.proofs.Common.{◌≡◌, sym, ap, subst, ◌∙◌}
use Rattle.std.specs.Prelude.{IfOk}
use Rattle.value_core.specs.Datum.{IsElement}
use Rattle.value_core.specs.Kinds.{sort_of}
use Rattle.value_core.specs.Rows.{rows_sort, rows_map}
use Rattle.value_core.specs.Contents.{AreRows, IsContents, kind_of}
use Rattle.value_core.specs.Body.{contents_of}
use Rattle.value_core.proofs.TableRows.{under_is}
use Rattle.value_core.proofs.value.Value.lookup.Goals as goal

pub returns-clause-sort : goal.returns-clause-sort
returns-clause-sort c =
    let rows : AreRows (rows_sort c.in-Table.rows) (rows_map c.in-Table.rows) = subst (λ b. IsContents (contents_of b)) c.in-Table.is c.self.invariant in
    let sort : sort_of (kind_of c.args.self.now) ≡ rows_sort c.in-Table.rows = ap (λ v. sort_of (kind_of v)) (sym c.self.view_is ∙ ap contents_of c.in-Table.is) in
    subst (λ e. IfOk c.ok_or.result (IsElement e)) (sym sort)
    (rw (c.ok_or.ensures.value, c.get.ensures) (under_is (rows_sort c.in-Table.rows) (rows_map c.in-Table.rows) c.args.key.now _ rows))
