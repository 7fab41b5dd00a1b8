use Rattle.std.proofs.Common.{◌≡◌, ◌≢◌, ◌∙◌, ℕ, List, Some, sym, ap, subst, arith}
use Rattle.std.specs.Prelude.{slice_get}
use Rattle.std.proofs.lemmas.Option.{slice_get_within, get_or_from_slice_get}
use Rattle.device_core.specs.Files.{files_of}
use Rattle.apply_core.specs.declared.need.Need.TheVariants as needs
use Rattle.run_core.specs.Runs.{run_ending, run_place}
use Rattle.run_core.specs.Steps.{need_at}
use Rattle.page_core.specs.Lists.{Every}
use Rattle.world_core.specs.declared.event.EventAnswer.{EventAnswer}
use Rattle.world_core.specs.declared.slot.Slot.{Slot}
use Rattle.world_core.specs.Answers.{Answers, finish_not_running, not_done}
use Rattle.world_core.specs.Events.{finish}
use Rattle.world_core.specs.Kept.{scene_of, standing_of}
use Rattle.world_core.proofs.Stepping.{not_running, run_at}
use Rattle.world_core.proofs.stage.WorldTables.finish.Goals as goal

pub returns-in-None-clause-answers : goal.returns-in-None-clause-answers
returns-in-None-clause-answers c =
    let none : Every (λ (s : Slot). s.number ≢ c.args.number) c.args.self.now.runs.items = subst (Every (λ (s : Slot). s.number ≢ c.args.number)) c.deref.ensures.value c.in-None.ensures.none in
    subst (λ (answer : EventAnswer). Answers (scene_of c.args.self.now) (finish c.args.number) answer (scene_of c.args.self.now)) (sym c.only.ensures)
    (finish_not_running (not_running c.args.self.now.desk (files_of c.args.self.now.hand) c.args.self.now.runs.items c.args.self.now.opening.items c.args.number c.requires.staged.kept c.requires.staged.all none))

pub index-requires : goal.index-requires
index-requires c =
    let slot : Slot = c.in-Some.ensures.some.0 in
    let at : slice_get c.args.self.now.runs.items c.in-Some.place ≡ Some slot = ap (λ (xs : List Slot). slice_get xs c.in-Some.place) (sym c.deref.ensures.value) ∙ c.in-Some.ensures.some.1 in
    omega (arith, slice_get_within c.args.self.now.runs.items c.in-Some.place slot at, c.args.self.now.runs.ok.0)

pub returns-then-not-is_done-clause-answers : goal.returns-then-not-is_done-clause-answers
returns-then-not-is_done-clause-answers c =
    let k : ℕ = c.in-Some.place in
    let runs : List Slot = c.args.self.now.runs.items in
    let slot : Slot = c.in-Some.ensures.some.0 in
    let at : slice_get runs k ≡ Some slot = ap (λ (xs : List Slot). slice_get xs k) (sym c.deref.ensures.value) ∙ c.in-Some.ensures.some.1 in
    let same : c.index.result.now ≡ slot = c.index.ensures ∙ get_or_from_slice_get runs k slot c.index.result.now at in
    let need : c.next-need.result ≡ need_at (run_place slot.run) = c.next-need.ensures.need ∙ ap (λ (s : Slot). need_at (run_place s.run)) same in
    let more : need_at (run_place slot.run) ≢ needs.Done = λ done. let yes = c.is_done.ensures.1 (need ∙ done) in let no = c.if-not-is_done.true in cc in
    subst (λ (answer : EventAnswer). Answers (scene_of c.args.self.now) (finish c.args.number) answer (scene_of c.args.self.now)) (sym c.only-then-not-is_done.ensures)
    (not_done k (standing_of slot) (run_at c.args.self.now.desk (files_of c.args.self.now.hand) runs c.args.self.now.opening.items k c.args.number slot c.requires.staged.kept at c.in-Some.ensures.some.2) more)

pub publish-requires-clause-done : goal.publish-requires-clause-done
publish-requires-clause-done c =
    let k : ℕ = c.in-Some.place in
    let runs : List Slot = c.args.self.now.runs.items in
    let slot : Slot = c.in-Some.ensures.some.0 in
    let at : slice_get runs k ≡ Some slot = ap (λ (xs : List Slot). slice_get xs k) (sym c.deref.ensures.value) ∙ c.in-Some.ensures.some.1 in
    let same : c.index.result.now ≡ slot = c.index.ensures ∙ get_or_from_slice_get runs k slot c.index.result.now at in
    let done : c.next-need.result ≡ needs.Done = c.is_done.ensures.0 c.if-not-is_done.false in
    (slot, at, λ none. c.next-need.ensures.done.0 done (ap (λ (s : Slot). run_ending s.run) same ∙ none))
