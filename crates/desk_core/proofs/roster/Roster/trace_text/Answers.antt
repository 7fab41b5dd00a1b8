use Rattle.std.proofs.Common.{◌∙◌, ◌++◌, map, ap}
use Rattle.std.specs.Arc.{arc_value}
use Rattle.decl_core.specs.ObjectMap.{object_of}
use Rattle.board_core.specs.Board.{Board}
use Rattle.word_core.specs.Text.{front_words, lines_of, trace_text}
use Rattle.desk_core.specs.Kept.{board_of}
use Rattle.desk_core.specs.Told.{lines_told}
use Rattle.desk_core.proofs.Telling.{text_of, whole_text}
use Rattle.desk_core.proofs.roster.Roster.trace_text.Goals as goal

pub returns : goal.returns
returns c =
    let b : Board = board_of c.self.inside in
    let o = object_of c.object-object.result.now in
    let front = c.in_ok-push_front.ensures ∙ ap (λ xs. xs ++ lines_of (front_words o c.args.opening.now)) c.new-out.ensures.items in
    let calls = ap (map (λ x. arc_value x)) c.deref.ensures.value in
    c.in_ok-push_marks.ensures
    ∙ ap (λ xs. xs ++ text_of o (map (λ x. arc_value x) c.deref.result.now) c.deref-2.result.now c.deref-3.result.now) front
    ∙ ap (λ xs. lines_of (front_words o c.args.opening.now) ++ text_of o xs c.deref-2.result.now c.deref-3.result.now) calls
    ∙ ap (λ xs. lines_of (front_words o c.args.opening.now) ++ text_of o b.calls xs c.deref-3.result.now) c.deref-2.ensures.value
    ∙ ap (λ xs. lines_of (front_words o c.args.opening.now) ++ text_of o b.calls c.self.inside.history.items xs) c.deref-3.ensures.value
    ∙ whole_text o c.args.opening.now (lines_told b)
    ∙ ap (λ x. trace_text (object_of x) c.args.opening.now (lines_told b)) c.object-object.ensures.same
    ∙ ap (λ (x : Board). trace_text (object_of x.object) c.args.opening.now (lines_told x)) c.self.view_is
