use Rattle.std.proofs.Common.{sym, ◌∙◌, ap, subst, length}
use Rattle.board_core.specs.Board.{Board, Rests, dismissed}
use Rattle.board_core.specs.Answers.{Cancels}
use Rattle.world_core.specs.declared.event.EventAnswer.{EventAnswer}
use Rattle.world_core.specs.declared.event.WorldAnswer.TheVariants.{Cancel}
use Rattle.world_core.specs.declared.stage.WorldTables.{WorldTables}
use Rattle.world_core.specs.Events.{cancel}
use Rattle.world_core.specs.Answers.{Answers, with_starts, cancelled, not_cancelled}
use Rattle.world_core.specs.Kept.{IsStaged, scene_of}
use Rattle.world_core.proofs.Settling.{dismissed_between, event_kept, event_new, event_goes, not_dismissed}
use Rattle.world_core.proofs.stage.WorldTables.cancel.Goals as goal

pub begin-starts-requires-clause-kept : goal.begin-starts-requires-clause-kept
begin-starts-requires-clause-kept c =
    let old = c.args.self.now in
    let found = subst (λ x. Cancels old.desk c.args.number x c.cancel-answer.new.self) c.in-Cancelled.is c.cancel-answer.ensures.board in
    event_kept old.desk (dismissed old.desk c.args.number) _ _ _ _ (dismissed_between old.desk c.args.number) found.1 c.requires.staged.kept c.requires.staged.all c.history.ensures.sound

pub begin-starts-requires-clause-new : goal.begin-starts-requires-clause-new
begin-starts-requires-clause-new c =
    let old = c.args.self.now in
    let found = subst (λ x. Cancels old.desk c.args.number x c.cancel-answer.new.self) c.in-Cancelled.is c.cancel-answer.ensures.board in
    (found.1.ones, event_new old.desk (dismissed old.desk c.args.number) _ _ _ (dismissed_between old.desk c.args.number) found.1 c.requires.staged.all (c.len-before.ensures ∙ ap (λ (b : Board). length b.trace) c.trace.ensures))

pub returns-in-Cancelled-clause-answers : goal.returns-in-Cancelled-clause-answers
returns-in-Cancelled-clause-answers c =
    let old = c.args.self.now in
    let found = subst (λ x. Cancels old.desk c.args.number x c.cancel-answer.new.self) c.in-Cancelled.is c.cancel-answer.ensures.board in
    let has = event_new old.desk (dismissed old.desk c.args.number) c.cancel-answer.new.self (length old.runs.items) c.len-before.result (dismissed_between old.desk c.args.number) found.1 c.requires.staged.all (c.len-before.ensures ∙ ap (λ (b : Board). length b.trace) c.trace.ensures) in
    cancelled found.0 (event_goes old c.begin-starts.new.self _ _ old.runs.items _ _ found.1 has c.begin-starts.ensures.staged c.begin-starts.ensures.desk c.begin-starts.ensures.starts c.begin-starts.ensures.files c.begin-starts.ensures.opening)

pub returns-in_default : goal.returns-in_default
returns-in_default c =
    let old = c.args.self.now in
    let none = c.in_default.not-Cancelled in
    let same = not_dismissed old.desk c.cancel-answer.new.self c.args.number c.cancel-answer.result c.cancel-answer.ensures.board none in
    let found = subst (λ (b : Board). Cancels old.desk c.args.number c.cancel-answer.result b) same c.cancel-answer.ensures.board in
    let told : Answers (scene_of old) (cancel c.args.number) (with_starts (Cancel c.cancel-answer.result) 0) (scene_of old) = not_cancelled c.cancel-answer.result none found in
    let put : Board → WorldTables = λ b. record old { desk = b } in
    record {
      answers = subst (λ (x : EventAnswer). Answers (scene_of old) (cancel c.args.number) x (scene_of (put c.cancel-answer.new.self))) (sym c.only.ensures)
          (subst (λ (b : Board). Answers (scene_of old) (cancel c.args.number) (with_starts (Cancel c.cancel-answer.result) 0) (scene_of (put b))) (sym same) told);
      staged = subst (λ (b : Board). IsStaged (put b)) (sym same) c.requires.staged;
      rests = λ rests. subst Rests (sym same) rests;
    }
