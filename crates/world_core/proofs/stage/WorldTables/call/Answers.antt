use Rattle.std.proofs.Common.{sym, ◌∙◌, ap, subst, length}
use Rattle.board_core.specs.Board.{Board, joined}
use Rattle.board_core.specs.Answers.{Asked}
use Rattle.world_core.specs.declared.event.EventAnswer.{EventAnswer}
use Rattle.world_core.specs.declared.event.WorldAnswer.TheVariants.{Number, Refused}
use Rattle.world_core.specs.declared.event.EventRefusal.TheVariants.{Submit}
use Rattle.world_core.specs.declared.stage.WorldTables.{WorldTables}
use Rattle.world_core.specs.Events.{call}
use Rattle.world_core.specs.Answers.{Answers, with_starts, called, not_called}
use Rattle.world_core.specs.Kept.{scene_of}
use Rattle.world_core.proofs.Settling.{joined_between, event_kept, event_new, event_goes}
use Rattle.world_core.proofs.stage.WorldTables.call.Goals as goal

pub begin-starts-requires-clause-kept : goal.begin-starts-requires-clause-kept
begin-starts-requires-clause-kept c =
    let old = c.args.self.now in
    let found = c.in-Ok.ensures.board in
    event_kept old.desk (joined old.desk found.0) _ _ _ _ (joined_between old.desk found.0) found.2 c.requires.staged.kept c.requires.staged.all c.history.ensures.sound

pub begin-starts-requires-clause-new : goal.begin-starts-requires-clause-new
begin-starts-requires-clause-new c =
    let old = c.args.self.now in
    let found = c.in-Ok.ensures.board in
    (found.2.ones, event_new old.desk (joined old.desk found.0) _ _ _ (joined_between old.desk found.0) found.2 c.requires.staged.all (c.len-before.ensures ∙ ap (λ (b : Board). length b.trace) c.trace.ensures))

pub returns-in-Ok-clause-answers : goal.returns-in-Ok-clause-answers
returns-in-Ok-clause-answers c =
    let old = c.args.self.now in
    let found = c.in-Ok.ensures.board in
    let asked : Asked = record { session = c.args.session; name = c.args.op.now; arguments = c.args.args.now } in
    let has = event_new old.desk (joined old.desk found.0) c.submit.new.self (length old.runs.items) c.len-before.result (joined_between old.desk found.0) found.2 c.requires.staged.all (c.len-before.ensures ∙ ap (λ (b : Board). length b.trace) c.trace.ensures) in
    let goes = event_goes old c.begin-starts.new.self _ _ old.runs.items _ _ found.2 has c.begin-starts.ensures.staged c.begin-starts.ensures.desk c.begin-starts.ensures.starts c.begin-starts.ensures.files c.begin-starts.ensures.opening in
    subst (λ n. Answers (scene_of old) (call asked) (with_starts (Number n) c.begin-starts.result) (scene_of c.begin-starts.new.self)) (sym c.in-Ok.ensures.number) (called found.0 found.1 goes)

pub returns-in-Err-clause-answers : goal.returns-in-Err-clause-answers
returns-in-Err-clause-answers c =
    let old = c.args.self.now in
    let found = c.in-Err.ensures.refused in
    let asked : Asked = record { session = c.args.session; name = c.args.op.now; arguments = c.args.args.now } in
    let put : Board → WorldTables = λ b. record old { desk = b } in
    let told : Answers (scene_of old) (call asked) (with_starts (Refused (Submit c.in-Err.fault)) 0) (scene_of old) = not_called c.in-Err.fault found.0 in
    subst (λ (x : EventAnswer). Answers (scene_of old) (call asked) x (scene_of (put c.submit.new.self))) (sym c.only.ensures)
    (subst (λ (b : Board). Answers (scene_of old) (call asked) (with_starts (Refused (Submit c.in-Err.fault)) 0) (scene_of (put b))) (sym found.1) told)
