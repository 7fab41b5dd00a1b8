use Rattle.std.proofs.Common.{◌≡◌, ◌+◌, ◌∙◌, List, length, Some, refl, sym, ap, subst, arith, map}
use Rattle.std.proofs.lemmas.Option.{get_or_from_slice_get}
use Rattle.page_core.specs.declared.outcome.Outcome.{Outcome}
use Rattle.apply_core.specs.declared.reply.Reply.{Reply}
use Rattle.run_core.specs.Runs.{run_ending, ending_by_place}
use Rattle.device_core.specs.Files.{files_of}
use Rattle.page_core.specs.Outcomes.{outcome_reply, outcome_news}
use Rattle.board_core.specs.Board.{Board, Rests, ended, entry_of}
use Rattle.world_core.specs.declared.event.WorldAnswer.TheVariants.{Ended}
use Rattle.world_core.specs.declared.slot.Slot.{Slot}
use Rattle.world_core.specs.Answers.{Answers, Leaves, with_starts, finished}
use Rattle.world_core.specs.Events.{finish}
use Rattle.world_core.specs.Scene.{Standing, Goes}
use Rattle.world_core.specs.Kept.{scene_of, standing_of}
use Rattle.world_core.proofs.Finishing.{TellsOf, finish_is, finish_leaves, no_stranger}
use Rattle.world_core.proofs.Settling.{event_goes, rests_collected}
use Rattle.world_core.proofs.Stepping.{run_at}
use Rattle.world_core.proofs.stage.WorldTables.publish.Goals as goal

pub overflow_add-before : goal.overflow_add-before
overflow_add-before c =
    let old = c.args.self.now in
    let same : c.remove.result ≡ c.requires.done.0 = c.remove.ensures.value ∙ get_or_from_slice_get old.runs.items c.args.place c.requires.done.0 c.remove.result c.requires.done.1 in
    let before : c.len-before.result + 1 ≡ length old.desk.trace + 1 = ap (λ k. k + 1) (c.len-before.ensures ∙ ap (λ (b : Board). length b.trace) c.trace.ensures) in
    let e = c.into_outcome-outcome.ensures in
    let tells : TellsOf c.remove.result c.into_outcome-outcome.result = record { call = e.call; sealed = e.sealed; told = e.told; renewed = e.renewed; writes = e.writes; short = e.short } in
    let all = finish_is c.truth_is_noted.ensures old c.args.place (c.len-before.result + 1) c.remove.result c.into_outcome-outcome.result c.remove.new.self.items c.in-Ok.receipt c.finish.new.self c.requires.staged
    (c.requires.done.1 ∙ ap (λ (s : Slot). Some s) (sym same)) c.remove.ensures.by_index.2 before tells c.in-Ok.ensures.board c.history.ensures.sound in
    let trace : c.len-all.result ≡ length c.finish.new.self.trace = c.len-all.ensures ∙ ap (λ (b : Board). length b.trace) c.trace-in-Ok.ensures in
    omega (arith, all.longer, trace, c.len-all.type_inv)

pub begin-starts-requires-clause-kept : goal.begin-starts-requires-clause-kept
begin-starts-requires-clause-kept c =
    let old = c.args.self.now in
    let same : c.remove.result ≡ c.requires.done.0 = c.remove.ensures.value ∙ get_or_from_slice_get old.runs.items c.args.place c.requires.done.0 c.remove.result c.requires.done.1 in
    let before : c.len-before.result + 1 ≡ length old.desk.trace + 1 = ap (λ k. k + 1) (c.len-before.ensures ∙ ap (λ (b : Board). length b.trace) c.trace.ensures) in
    let e = c.into_outcome-outcome.ensures in
    let tells : TellsOf c.remove.result c.into_outcome-outcome.result = record { call = e.call; sealed = e.sealed; told = e.told; renewed = e.renewed; writes = e.writes; short = e.short } in
    (finish_is c.truth_is_noted.ensures old c.args.place (c.len-before.result + 1) c.remove.result c.into_outcome-outcome.result c.remove.new.self.items c.in-Ok.receipt c.finish.new.self c.requires.staged
    (c.requires.done.1 ∙ ap (λ (s : Slot). Some s) (sym same)) c.remove.ensures.by_index.2 before tells c.in-Ok.ensures.board c.history.ensures.sound).kept

pub begin-starts-requires-clause-new : goal.begin-starts-requires-clause-new
begin-starts-requires-clause-new c =
    let old = c.args.self.now in
    let same : c.remove.result ≡ c.requires.done.0 = c.remove.ensures.value ∙ get_or_from_slice_get old.runs.items c.args.place c.requires.done.0 c.remove.result c.requires.done.1 in
    let before : c.len-before.result + 1 ≡ length old.desk.trace + 1 = ap (λ k. k + 1) (c.len-before.ensures ∙ ap (λ (b : Board). length b.trace) c.trace.ensures) in
    let e = c.into_outcome-outcome.ensures in
    let tells : TellsOf c.remove.result c.into_outcome-outcome.result = record { call = e.call; sealed = e.sealed; told = e.told; renewed = e.renewed; writes = e.writes; short = e.short } in
    let all = finish_is c.truth_is_noted.ensures old c.args.place (c.len-before.result + 1) c.remove.result c.into_outcome-outcome.result c.remove.new.self.items c.in-Ok.receipt c.finish.new.self c.requires.staged
    (c.requires.done.1 ∙ ap (λ (s : Slot). Some s) (sym same)) c.remove.ensures.by_index.2 before tells c.in-Ok.ensures.board c.history.ensures.sound in
    (all.settles.ones, all.has)

pub unreachable-requires : goal.unreachable-requires
unreachable-requires c =
    let old = c.args.self.now in
    let same : c.remove.result ≡ c.requires.done.0 = c.remove.ensures.value ∙ get_or_from_slice_get old.runs.items c.args.place c.requires.done.0 c.remove.result c.requires.done.1 in
    no_stranger old c.args.place c.remove.result c.into_outcome-outcome.result c.requires.staged (c.requires.done.1 ∙ ap (λ (s : Slot). Some s) (sym same)) c.into_outcome-outcome.ensures.call c.into_outcome-outcome.ensures.fresh c.in-Err.ensures.stranger.2

pub returns-clause-answers : goal.returns-clause-answers
returns-clause-answers c = λ slot at.
    let old = c.args.self.now in
    let same : c.remove.result ≡ slot = c.remove.ensures.value ∙ get_or_from_slice_get old.runs.items c.args.place slot c.remove.result at in
    let before : c.len-before.result + 1 ≡ length old.desk.trace + 1 = ap (λ k. k + 1) (c.len-before.ensures ∙ ap (λ (b : Board). length b.trace) c.trace.ensures) in
    let o : Outcome = c.into_outcome-outcome.result in
    let e = c.into_outcome-outcome.ensures in
    let its : TellsOf c.remove.result o = record { call = e.call; sealed = e.sealed; told = e.told; renewed = e.renewed; writes = e.writes; short = e.short } in
    let tells : TellsOf slot o = subst (λ (x : Slot). TellsOf x o) same its in
    let ended_so : run_ending slot.run ≡ Some (outcome_reply o) = ap (λ (s : Slot). run_ending s.run) (sym same) ∙ e.reply in
    let all = finish_is c.truth_is_noted.ensures old c.args.place (c.len-before.result + 1) slot o c.remove.new.self.items c.in-Ok.receipt c.finish.new.self c.requires.staged
    at c.remove.ensures.by_index.2 before tells c.in-Ok.ensures.board c.history.ensures.sound in
    let goes = event_goes old c.begin-starts.new.self _ _ c.remove.new.self.items _ _ all.settles all.has c.begin-starts.ensures.staged c.begin-starts.ensures.desk c.begin-starts.ensures.starts c.begin-starts.ensures.files c.begin-starts.ensures.opening in
    let whole = subst (λ (rs : List Standing). Goes (scene_of old) (ended old.desk (entry_of all.r (outcome_reply o) (outcome_news o))) rs c.begin-starts.result (scene_of c.begin-starts.new.self)) all.standing goes in
    let told = finished c.args.place all.r (standing_of slot) (outcome_reply o) (outcome_news o) all.runs (run_at old.desk (files_of old.hand) old.runs.items old.opening.items c.args.place slot.number slot c.requires.staged.kept at refl) all.call (sym (ending_by_place slot.run) ∙ ended_so)
    (finish_leaves old c.args.place slot o c.requires.staged at tells) whole in
    subst (λ (reply : Reply). Answers (scene_of old) (finish slot.number) (with_starts (Ended reply) c.begin-starts.result) (scene_of c.begin-starts.new.self))
    (sym (c.reply-reply.ensures ∙ c.in-Ok.ensures.board.outcome.reply)) told

pub returns-clause-rests : goal.returns-clause-rests
returns-clause-rests c = λ before. subst (λ (b : Board). Rests b) (sym c.begin-starts.ensures.desk) (rests_collected c.finish.new.self c.history.ensures.rests)
