use Rattle.std.proofs.Common.{◌≡◌, ◌∙◌, Some, ap, sym}
use Rattle.std.specs.Prelude.{slice_get}
use Rattle.board_core.specs.declared.event.TraceEvent.TheVariants.{Start, End}
use Rattle.board_core.specs.Board.{Board}
use Rattle.world_core.proofs.Counting.{start_counted, end_counted}
use Rattle.world_core.proofs.replay.count.Goals as goal

pub returns-in-Some-Start : goal.returns-in-Some-Start
returns-in-Some-Start c =
    let there : slice_get c.args.desk.now.trace c.args.place ≡ Some (Start c.in-Some-Start.number) = ap (λ (b : Board). slice_get b.trace c.args.place) (sym c.trace-trace.ensures) ∙ sym c.get.ensures ∙ c.in-Some-Start.is ∙ ap Some c.in-Some-Start.field-0-is in
    start_counted c.args.desk.now c.args.place c.in-Some-Start.number c.operation_of.result c.requires.sound c.args.counters.now c.start.new.self c.requires.stands c.start.result c.operation_of.ensures there
    c.start.ensures.answer c.start.ensures.taken

pub returns-in-Some-End : goal.returns-in-Some-End
returns-in-Some-End c =
    let there : slice_get c.args.desk.now.trace c.args.place ≡ Some (End c.in-Some-End.number c.in-Some-End.field-0-1) = ap (λ (b : Board). slice_get b.trace c.args.place) (sym c.trace-trace.ensures) ∙ sym c.get.ensures ∙ c.in-Some-End.is ∙ ap Some c.in-Some-End.field-0-is in
    end_counted c.args.desk.now c.args.place c.in-Some-End.number c.operation_of-in-Some-End.result c.requires.sound c.args.counters.now c.finish.new.self c.requires.stands c.finish.result c.operation_of-in-Some-End.ensures c.in-Some-End.field-0-1 there
    c.finish.ensures.answer c.finish.ensures.ended
