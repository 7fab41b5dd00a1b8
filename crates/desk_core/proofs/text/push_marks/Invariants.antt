use Rattle.std.proofs.Common.{◌≡◌, ◌++◌, map, drop}
use Rattle.std.specs.Arc.{arc_value}
use Rattle.decl_core.specs.ObjectMap.{object_of}
use Rattle.word_core.specs.Text.{event_words, lines_of}
use Rattle.desk_core.specs.Kept.{events_of}
use Rattle.desk_core.specs.Told.{line_told}
use Rattle.desk_core.proofs.text.push_marks.Given as goal

abbrev pub invariant-loop-mark : goal.invariant-loop-mark
invariant-loop-mark l = l.out.items ++ lines_of (map (event_words (object_of l.object)) (map (line_told (map (λ c. arc_value c) l.calls)) (events_of l.history (drop l.mark-index l.marks)))) ≡ l.fn.out.items ++ lines_of (map (event_words (object_of l.object)) (map (line_told (map (λ c. arc_value c) l.calls)) (events_of l.history l.marks)))
