use Rattle.std.proofs.Common.{arith, ◌≡◌, ◌<◌, ◌⊎◌, inl, inr, sym, ◌∙◌, ap, subst, length}
use Rattle.board_core.specs.Board.{Board, released, marked}
use Rattle.world_core.specs.declared.event.EventAnswer.{EventAnswer}
use Rattle.world_core.specs.Events.{leave}
use Rattle.world_core.specs.Answers.{Answers, left, no_session}
use Rattle.world_core.specs.Kept.{scene_of}
use Rattle.world_core.proofs.Settling.{left_between, event_kept, event_new, event_goes}
use Rattle.world_core.proofs.stage.WorldTables.leave.Goals.{then-session-eq0-via-then-session-eq0, then-session-eq0-via-else-session-eq0+then-session-gt1024}
use Rattle.world_core.proofs.stage.WorldTables.leave.Goals as goal

pub returns-then-session-eq0-clause-answers : goal.returns-then-session-eq0-clause-answers
returns-then-session-eq0-clause-answers c =
    let old = c.args.self.now in
    let none : (c.args.session ≡ 0) ⊎ (1024 < c.args.session) = elim c.then-session-eq0.branch [
      | then-session-eq0-via-then-session-eq0 w ↦ inl w.if-session-eq0.true
      | then-session-eq0-via-else-session-eq0+then-session-gt1024 w ↦ inr w.if-session-gt1024.true
    ] in
    subst (λ (x : EventAnswer). Answers (scene_of old) (leave c.args.session) x (scene_of old)) (sym c.only.ensures) (no_session none)

pub begin-starts-requires-clause-kept : goal.begin-starts-requires-clause-kept
begin-starts-requires-clause-kept c =
    let old = c.args.self.now in
    let some : 0 < c.args.session = omega (arith, c.if-session-eq0.false) in
    let found = c.disconnect.ensures.left some c.if-session-gt1024.false in
    event_kept old.desk (marked (released old.desk c.args.session) c.args.session) _ _ _ _ (left_between old.desk c.args.session) found c.requires.staged.kept c.requires.staged.all c.history.ensures.sound

pub begin-starts-requires-clause-new : goal.begin-starts-requires-clause-new
begin-starts-requires-clause-new c =
    let old = c.args.self.now in
    let some : 0 < c.args.session = omega (arith, c.if-session-eq0.false) in
    let found = c.disconnect.ensures.left some c.if-session-gt1024.false in
    (found.ones, event_new old.desk (marked (released old.desk c.args.session) c.args.session) _ _ _ (left_between old.desk c.args.session) found c.requires.staged.all (c.len-before.ensures ∙ ap (λ (b : Board). length b.trace) c.trace.ensures))

pub returns-clause-answers : goal.returns-clause-answers
returns-clause-answers c =
    let old = c.args.self.now in
    let some : 0 < c.args.session = omega (arith, c.if-session-eq0.false) in
    let found = c.disconnect.ensures.left some c.if-session-gt1024.false in
    let has = event_new old.desk (marked (released old.desk c.args.session) c.args.session) c.disconnect.new.self (length old.runs.items) c.len-before.result (left_between old.desk c.args.session) found c.requires.staged.all (c.len-before.ensures ∙ ap (λ (b : Board). length b.trace) c.trace.ensures) in
    left some c.if-session-gt1024.false (event_goes old c.begin-starts.new.self _ _ old.runs.items _ _ found has c.begin-starts.ensures.staged c.begin-starts.ensures.desk c.begin-starts.ensures.starts c.begin-starts.ensures.files c.begin-starts.ensures.opening)
