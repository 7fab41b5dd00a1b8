use Rattle.std.proofs.Common.{◌++◌, ap, subst, ◌∙◌}
use Rattle.std.specs.Prelude.{All}
use Rattle.value_core.specs.Contents.{IsContents}
use Rattle.decl_core.specs.declared.object.Object.{Object}
use Rattle.decl_core.specs.ObjectMap.{parts_of}
use Rattle.word_core.specs.Words.{line_of}
use Rattle.word_core.specs.Text.{lines_of, parts_words}
use Rattle.live_core.specs.Text.{object_words, source_words}
use Rattle.live_core.specs.Scene.{Scene}
use Rattle.live_core.proofs.Writing.{front_told}
use Rattle.live_core.proofs.hosted.Hosted.push_runs.Goals as goal

pub returns : goal.returns
returns c =
    let s = c.args.self.now in
    let out = c.args.out.now.items in
    let one = c.push_object.new.out.items in
    let two = c.push_source.new.out.items in
    let here = c.object-object.ensures ∙ ap (λ (w : Scene). w.hall.object) c.self.view_is in
    let values = c.contents.ensures ∙ ap (λ (w : Scene). w.hall.contents) c.self.view_is in
    let held = c.contents-2.ensures ∙ ap (λ (w : Scene). w.hall.contents) c.self.view_is in
    let first = c.in_ok-push_object.ensures ∙ ap (λ (x : Object). out ++ line_of (object_words x.name c.args.epoch)) here in
    let second = c.in_ok-push_source.ensures ∙ ap (λ n. one ++ line_of (source_words n)) c.source.ensures.source in
    let third = c.in_ok-push_parts.ensures ∙ ap (λ ps. two ++ lines_of (parts_words (parts_of ps) c.contents-2.result.now)) c.deref.ensures.value
    ∙ ap (λ (x : Object). two ++ lines_of (parts_words (parts_of x.parts.items) c.contents-2.result.now)) here
    ∙ ap (λ vs. two ++ lines_of (parts_words (parts_of s.hall.object.parts.items) vs)) held in
    front_told s c.args.epoch c.args.runs.now c.args.base out one two c.push_parts.new.out.items c.push_behind_parts.new.out.items first second third c.in_ok-push_behind_parts.ensures
    c.source.ensures.long (subst (λ vs. All IsContents vs) values c.are_contents.ensures)
