use Rattle.std.proofs.Common.{◌∙◌, ◌<◌, ◌++◌, ap, map, length, arith}
use Rattle.std.specs.Arc.{arc_value}
use Rattle.decl_core.specs.ObjectMap.{object_of}
use Rattle.word_core.specs.Words.{line_of}
use Rattle.word_core.specs.Text.{event_words}
use Rattle.desk_core.specs.declared.marks.Mark.TheVariants.{Start}
use Rattle.desk_core.specs.Told.{line_told}
use Rattle.desk_core.proofs.Telling.{one_line}
use Rattle.desk_core.proofs.text.push_marks.Goals as goal

pub loop-mark-preserved : goal.loop-mark-preserved
loop-mark-preserved c =
    let o = object_of c.args.object.now in
    let calls = map (λ x. arc_value x) c.args.calls.now in
    let within : c.loop-mark.mark-index < length c.args.marks.now = omega (arith, c.loop-mark-test.true) in
    one_line o calls c.args.history.now c.args.marks.now c.loop-mark.mark-index (Start 0) c.loop-mark.out.items c.push_event.new.out.items within
    (c.in_ok-push_event.ensures ∙ ap (λ e. c.loop-mark.out.items ++ line_of (event_words o (line_told calls e))) c.event_of-event.ensures)
    ∙ c.loop-mark.invariant
