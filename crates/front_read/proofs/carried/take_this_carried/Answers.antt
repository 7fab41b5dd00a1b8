use Rattle.std.proofs.Common.{◌≡◌, ◌++◌, ◌∷◌, subst}
use Rattle.std.specs.Prelude.{codes}
use Rattle.word_core.specs.Words.{bare, line_of}
use Rattle.decl_core.specs.ObjectMap.{object_of}
use Rattle.live_core.specs.Text.{carried_words}
use Rattle.front_read.specs.Rows.{row_words}
use Rattle.front_read.specs.Row.{carried_row}
use Rattle.front_read.proofs.Standing.{not_there}
use Rattle.front_read.proofs.carried.take_this_carried.Goals as goal

pub returns : goal.returns
returns c =
    not_there c.args.text.now c.deref-2.result.now c.push_carried.new.out.items c.new-line.result.items (row_words (codes "carried") (carried_words (object_of c.args.object.now)) (carried_row c.args.row.now)) c.in-None.ensures c.deref-2.ensures.value
    (subst (λ xs. c.push_carried.new.out.items ≡ c.new-line.result.items ++ line_of (bare (codes "carried") ∷ carried_words (object_of c.args.object.now) (record { number = c.args.row.now.head.number; told = c.args.row.now.head.told; session = c.args.row.now.head.session; operation = c.args.row.now.operation; arguments = xs }))) c.deref.ensures.value c.in_ok-push_carried.ensures)
    c.new-line.ensures.items
