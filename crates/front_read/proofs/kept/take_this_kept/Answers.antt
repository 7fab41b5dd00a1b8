use Rattle.std.proofs.Common.{◌≡◌, ◌++◌, subst}
use Rattle.std.specs.Prelude.{codes}
use Rattle.word_core.specs.Words.{line_of}
use Rattle.decl_core.specs.ObjectMap.{object_of}
use Rattle.live_core.specs.Text.{kept_words, answer_of}
use Rattle.front_read.specs.Rows.{row_words}
use Rattle.front_read.specs.Row.{kept_row}
use Rattle.front_read.proofs.Standing.{not_there}
use Rattle.front_read.proofs.kept.take_this_kept.Goals as goal

pub returns : goal.returns
returns c =
    let row = c.args.row.now in
    let o = object_of c.args.object.now in
    let written = subst (λ xs. c.push_kept.new.out.items ≡ c.new-line.result.items ++ line_of (row_words (codes "kept") (kept_words o) (record { session = row.head.session; key = row.head.key; told = row.head.told; answer = answer_of c.reply_in.result; operation = row.operation; arguments = xs }))) c.deref.ensures.value c.in_ok-push_kept.ensures in
    not_there c.args.text.now c.deref-2.result.now c.push_kept.new.out.items c.new-line.result.items (row_words (codes "kept") (kept_words o) (kept_row row)) c.in-None.ensures c.deref-2.ensures.value
    (subst (λ a. c.push_kept.new.out.items ≡ c.new-line.result.items ++ line_of (row_words (codes "kept") (kept_words o) (record { session = row.head.session; key = row.head.key; told = row.head.told; answer = a; operation = row.operation; arguments = row.arguments.items }))) c.reply_in.ensures written)
    c.new-line.ensures.items
