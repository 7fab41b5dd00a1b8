use Rattle.std.proofs.Common.{rules, ◌∙◌, ap, arith, ◌-◌, ◌<◌, length, ◌∷◌, ◌++◌, []}
use Rattle.std.specs.Prelude.{slice_get, slice_set}
use Rattle.board_core.proofs.Indexing.{row_more, row_same}
use Rattle.board_core.proofs.index.Index.add.Goals as goal

pub returns-in_err-add-clause-err : goal.returns-in_err-add-clause-err
returns-in_err-add-clause-err c =
    let same = row_same (λ row. row.items) c.self.inside.rows.items (c.args.session - 1) c.index_mut.result.now c.add.new.row c.index_mut.ensures.value c.in_err-add.ensures.err ∙ c.self.view_is in
    search (rules, same)

pub returns-clause-ok : goal.returns-clause-ok
returns-clause-ok c = λ row is0.
    let within : c.args.session - 1 < length c.self.inside.rows.items = omega (arith, c.self.invariant, c.requires) in
    row_more (λ row. row.items) c.self.inside.rows.items (c.args.session - 1) c.index_mut.result.now c.add.new.row row c.args.number within c.index_mut.ensures.value c.in_ok-add.ensures.ok (ap (λ rs. slice_get rs (c.args.session - 1)) c.self.view_is ∙ is0)
    ∙ ap (λ rs. slice_set rs (c.args.session - 1) (row ++ c.args.number ∷ [])) c.self.view_is
