use Rattle.std.proofs.Common.{◌≡◌, ◌≢◌, ◌∙◌, ℕ, List, Some, map, refl, sym, ap, subst, arith}
use Rattle.std.specs.Prelude.{slice_get, slice_set}
use Rattle.std.proofs.lemmas.Option.{slice_get_within, get_or_from_slice_get}
use Rattle.device_core.specs.Files.{files_of}
use Rattle.apply_core.specs.declared.need.Need.{Need}
use Rattle.apply_core.specs.declared.need.Need.TheVariants as needs
use Rattle.run_core.specs.declared.step.StepAnswer.{StepAnswer}
use Rattle.run_core.specs.Runs.{run_ending, run_place}
use Rattle.run_core.specs.Phases.{step_answer}
use Rattle.run_core.specs.Steps.{need_at}
use Rattle.page_core.specs.Lists.{Every}
use Rattle.page_core.proofs.Lists.{Every-at, true_false}
use Rattle.world_core.specs.declared.event.WorldAnswer.TheVariants.{Stepped}
use Rattle.world_core.specs.declared.event.EventAnswer.{EventAnswer}
use Rattle.world_core.specs.declared.slot.Slot.{Slot}
use Rattle.world_core.specs.Answers.{Answers, Moves, step_not_running, no_step, with_starts}
use Rattle.world_core.specs.Events.{step}
use Rattle.world_core.specs.Kept.{IsReady, scene_of, standing_of}
use Rattle.world_core.specs.Scene.{IsRunAt}
use Rattle.world_core.proofs.Places.{length_set}
use Rattle.world_core.proofs.Stepping.{Spares, Makes, not_running, run_at, step_near, one_ready, one_moves, runs_stepped, step_answers}
use Rattle.world_core.proofs.stage.WorldTables.step.Goals as goal

pub returns-in-None-clause-answers : goal.returns-in-None-clause-answers
returns-in-None-clause-answers c =
    let none : Every (λ (s : Slot). s.number ≢ c.args.number) c.args.self.now.runs.items = subst (Every (λ (s : Slot). s.number ≢ c.args.number)) c.deref.ensures.value c.in-None.ensures.none in
    subst (λ (answer : EventAnswer). Answers (scene_of c.args.self.now) (step c.args.number c.args.works) answer (scene_of c.args.self.now)) (sym c.only.ensures)
    (step_not_running (not_running c.args.self.now.desk (files_of c.args.self.now.hand) c.args.self.now.runs.items c.args.self.now.opening.items c.args.number c.requires.staged.kept c.requires.staged.all none))

pub index-requires : goal.index-requires
index-requires c =
    let slot : Slot = c.in-Some.ensures.some.0 in
    let at : slice_get c.args.self.now.runs.items c.in-Some.place ≡ Some slot = ap (λ (xs : List Slot). slice_get xs c.in-Some.place) (sym c.deref.ensures.value) ∙ c.in-Some.ensures.some.1 in
    omega (arith, slice_get_within c.args.self.now.runs.items c.in-Some.place slot at, c.args.self.now.runs.ok.0)

pub index_mut-slot-requires : goal.index_mut-slot-requires
index_mut-slot-requires c =
    let slot : Slot = c.in-Some.ensures.some.0 in
    let at : slice_get c.args.self.now.runs.items c.in-Some.place ≡ Some slot = ap (λ (xs : List Slot). slice_get xs c.in-Some.place) (sym c.deref.ensures.value) ∙ c.in-Some.ensures.some.1 in
    omega (arith, slice_get_within c.args.self.now.runs.items c.in-Some.place slot at, c.args.self.now.runs.ok.0)

pub returns-then-is_done-clause-answers : goal.returns-then-is_done-clause-answers
returns-then-is_done-clause-answers c =
    let k : ℕ = c.in-Some.place in
    let runs : List Slot = c.args.self.now.runs.items in
    let slot : Slot = c.in-Some.ensures.some.0 in
    let at : slice_get runs k ≡ Some slot = ap (λ (xs : List Slot). slice_get xs k) (sym c.deref.ensures.value) ∙ c.in-Some.ensures.some.1 in
    let same : c.index.result.now ≡ slot = c.index.ensures ∙ get_or_from_slice_get runs k slot c.index.result.now at in
    let need : c.next-need.result ≡ need_at (run_place slot.run) = c.next-need.ensures.need ∙ ap (λ (s : Slot). need_at (run_place s.run)) same in
    let done : need_at (run_place slot.run) ≡ needs.Done = sym need ∙ c.is_done.ensures.0 c.if-is_done.true in
    subst (λ (answer : EventAnswer). Answers (scene_of c.args.self.now) (step c.args.number c.args.works) answer (scene_of c.args.self.now)) (sym c.only-then-is_done.ensures)
    (no_step k (standing_of slot) (run_at c.args.self.now.desk (files_of c.args.self.now.hand) runs c.args.self.now.opening.items k c.args.number slot c.requires.staged.kept at c.in-Some.ensures.some.2) done)

pub returns-clause-answers : goal.returns-clause-answers
returns-clause-answers c =
    let k : ℕ = c.in-Some.place in
    let runs : List Slot = c.args.self.now.runs.items in
    let slot : Slot = c.in-Some.ensures.some.0 in
    let own : Slot = c.index_mut-slot.result.now in
    let left : Slot = record { alloc = own.alloc; number = own.number; run = c.step_run-answer.new.run } in
    let there : slice_get runs k ≡ Some slot = ap (λ (xs : List Slot). slice_get xs k) (sym c.deref.ensures.value) ∙ c.in-Some.ensures.some.1 in
    let seen : c.index.result.now ≡ slot = c.index.ensures ∙ get_or_from_slice_get runs k slot c.index.result.now there in
    let same : own ≡ slot = c.index_mut-slot.ensures.value ∙ get_or_from_slice_get runs k slot own there in
    let at : slice_get runs k ≡ Some own = there ∙ ap Some (sym same) in
    let need : c.next-need.result ≡ need_at (run_place own.run) = c.next-need.ensures.need ∙ ap (λ (s : Slot). need_at (run_place s.run)) (seen ∙ sym same) in
    let more : need_at (run_place own.run) ≢ needs.Done = λ done. true_false c.is_done.result (c.is_done.ensures.1 (need ∙ done)) c.if-is_done.false in
    let e = c.step_run-answer.ensures in
    let spares : Spares (files_of c.args.self.now.hand) (files_of c.step_run-answer.new.hand) own.run left.run =
    record { call = e.call; kept = e.kept; some = c.agrees_with_some.ensures; unused = e.unused; others = e.others; serves = e.serves } in
    let makes : Makes c.args.works (files_of c.args.self.now.hand) (files_of c.step_run-answer.new.hand) own.run left.run =
    record { found = e.found; pen = e.pen; moves = e.moves; written = e.written; works = e.works; fails = e.fails } in
    let moves : Moves (standing_of own) c.args.works (run_place left.run) =
    one_moves c.chained_are_legal.ensures c.args.works c.args.self.now.desk (files_of c.args.self.now.hand) (files_of c.step_run-answer.new.hand) runs c.args.self.now.opening.items k own left c.requires.staged.kept at more spares makes in
    let run : IsRunAt (map standing_of runs) k c.args.number (standing_of own) =
    run_at c.args.self.now.desk (files_of c.args.self.now.hand) runs c.args.self.now.opening.items k c.args.number own c.requires.staged.kept at (ap (λ (s : Slot). s.number) same ∙ c.in-Some.ensures.some.2) in
    let said : c.only-2.result ≡ with_starts (Stepped (need_at (run_place own.run)) (step_answer (run_ending own.run) (run_ending left.run))) 0 =
    c.only-2.ensures ∙ ap (λ (n : Need). with_starts (Stepped n c.step_run-answer.result) 0) need ∙ ap (λ (a : StepAnswer). with_starts (Stepped (need_at (run_place own.run)) a) 0) e.answer in
    subst (λ (answer : EventAnswer). Answers (scene_of c.args.self.now) (step c.args.number c.args.works) answer
    (record { board = c.args.self.now.desk; opening = c.args.self.now.opening.items; files = files_of c.step_run-answer.new.hand; runs = map standing_of (slice_set runs k left) })) (sym said)
    (step_answers c.args.self.now.desk c.args.self.now.opening.items (files_of c.args.self.now.hand) (files_of c.step_run-answer.new.hand) runs k c.args.number c.args.works own left run more moves e.call)

pub returns-clause-staged : goal.returns-clause-staged
returns-clause-staged c =
    let k : ℕ = c.in-Some.place in
    let runs : List Slot = c.args.self.now.runs.items in
    let slot : Slot = c.in-Some.ensures.some.0 in
    let own : Slot = c.index_mut-slot.result.now in
    let left : Slot = record { alloc = own.alloc; number = own.number; run = c.step_run-answer.new.run } in
    let there : slice_get runs k ≡ Some slot = ap (λ (xs : List Slot). slice_get xs k) (sym c.deref.ensures.value) ∙ c.in-Some.ensures.some.1 in
    let same : own ≡ slot = c.index_mut-slot.ensures.value ∙ get_or_from_slice_get runs k slot own there in
    let at : slice_get runs k ≡ Some own = there ∙ ap Some (sym same) in
    let e = c.step_run-answer.ensures in
    let spares : Spares (files_of c.args.self.now.hand) (files_of c.step_run-answer.new.hand) own.run left.run =
    record { call = e.call; kept = e.kept; some = c.agrees_with_some.ensures; unused = e.unused; others = e.others; serves = e.serves } in
    let makes : Makes c.args.works (files_of c.args.self.now.hand) (files_of c.step_run-answer.new.hand) own.run left.run =
    record { found = e.found; pen = e.pen; moves = e.moves; written = e.written; works = e.works; fails = e.fails } in
    let ready : IsReady (files_of c.step_run-answer.new.hand) left =
    one_ready c.args.works (files_of c.args.self.now.hand) (files_of c.step_run-answer.new.hand) own left spares makes refl
    (step_near c.args.self.now.desk (files_of c.args.self.now.hand) runs c.args.self.now.opening.items k own left c.requires.staged.kept at e.moves) (Every-at (IsReady (files_of c.args.self.now.hand)) runs k own c.requires.staged.kept.ready at) in
    record {
      kept = runs_stepped c.pens_stay.ensures c.pens_are_open.ensures c.args.self.now.desk (files_of c.args.self.now.hand) (files_of c.step_run-answer.new.hand) runs c.args.self.now.opening.items k own left
          c.requires.staged.kept at spares ready;
      all = length_set runs k left ∙ c.requires.staged.all;
      room = c.requires.staged.room;
    }
