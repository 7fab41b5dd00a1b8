use Rattle.std.proofs.Common.{◌++◌, ◌∙◌, ap}
use Rattle.std.specs.Prelude.{codes}
use Rattle.std.proofs.lemmas.List.{append-nil}
use Rattle.word_core.specs.Words.{line_of}
use Rattle.decl_core.specs.ObjectMap.{object_of}
use Rattle.live_core.specs.Text.{run_words}
use Rattle.front_read.specs.Rows.{row_words}
use Rattle.front_read.proofs.Standing.{not_there}
use Rattle.front_read.proofs.run.take_this_run.Goals as goal

pub returns : goal.returns
returns c =
    not_there c.args.text.now c.deref.result.now c.push_past.new.out.items c.new-line.result.items (row_words (codes "past") (run_words (object_of c.args.object.now)) c.args.run) c.in-None.ensures c.deref.ensures.value
    (c.in_ok-push_past.ensures ∙ ap (λ t. c.new-line.result.items ++ t) (append-nil (line_of (row_words (codes "past") (run_words (object_of c.args.object.now)) c.args.run))))
    c.new-line.ensures.items
