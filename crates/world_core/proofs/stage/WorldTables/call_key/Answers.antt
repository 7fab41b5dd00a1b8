use Rattle.std.proofs.Common.{sym, ◌∙◌, ap, subst, length}
use Rattle.std.specs.Prelude.{Ok, Err}
use Rattle.board_core.specs.Board.{Board, joined}
use Rattle.board_core.specs.declared.answer.Keyed.{Keyed}
use Rattle.board_core.specs.declared.answer.Keyed.TheVariants as keyed
use Rattle.board_core.specs.Answers.{Asked}
use Rattle.board_core.specs.Keyed.{SubmitsKeyed}
use Rattle.world_core.specs.declared.event.EventAnswer.{EventAnswer}
use Rattle.world_core.specs.declared.event.WorldAnswer.TheVariants.{Number, Kept, Refused}
use Rattle.world_core.specs.declared.event.EventRefusal.TheVariants.{Keyed as KeyRefused}
use Rattle.world_core.specs.declared.stage.WorldTables.{WorldTables}
use Rattle.world_core.specs.Events.{call_key}
use Rattle.world_core.specs.Answers.{Answers, with_starts, called_key, kept, not_called_key}
use Rattle.world_core.specs.Kept.{scene_of}
use Rattle.world_core.proofs.Settling.{joined_between, event_kept, event_new, event_goes, refused_key}
use Rattle.world_core.proofs.stage.WorldTables.call_key.Goals as goal

pub begin-starts-requires-clause-kept : goal.begin-starts-requires-clause-kept
begin-starts-requires-clause-kept c =
    let old = c.args.self.now in
    let asked : Asked = record { session = c.args.session; name = c.args.op.now; arguments = c.args.args.now } in
    let found : SubmitsKeyed old.desk asked c.args.key (Ok (keyed.New c.in-Ok-New.number)) c.submit_keyed.new.self =
    subst (λ r. SubmitsKeyed old.desk asked c.args.key r c.submit_keyed.new.self) (c.in-Ok-New.is ∙ ap (λ (k : Keyed). Ok k) c.in-Ok-New.field-0-is) c.submit_keyed.ensures.board in
    event_kept old.desk (joined old.desk found.2.0) _ _ _ _ (joined_between old.desk found.2.0) found.2.2 c.requires.staged.kept c.requires.staged.all c.history.ensures.sound

pub begin-starts-requires-clause-new : goal.begin-starts-requires-clause-new
begin-starts-requires-clause-new c =
    let old = c.args.self.now in
    let asked : Asked = record { session = c.args.session; name = c.args.op.now; arguments = c.args.args.now } in
    let found : SubmitsKeyed old.desk asked c.args.key (Ok (keyed.New c.in-Ok-New.number)) c.submit_keyed.new.self =
    subst (λ r. SubmitsKeyed old.desk asked c.args.key r c.submit_keyed.new.self) (c.in-Ok-New.is ∙ ap (λ (k : Keyed). Ok k) c.in-Ok-New.field-0-is) c.submit_keyed.ensures.board in
    (found.2.2.ones, event_new old.desk (joined old.desk found.2.0) _ _ _ (joined_between old.desk found.2.0) found.2.2 c.requires.staged.all (c.len-before.ensures ∙ ap (λ (b : Board). length b.trace) c.trace.ensures))

pub returns-in-Ok-New-clause-answers : goal.returns-in-Ok-New-clause-answers
returns-in-Ok-New-clause-answers c =
    let old = c.args.self.now in
    let asked : Asked = record { session = c.args.session; name = c.args.op.now; arguments = c.args.args.now } in
    let found : SubmitsKeyed old.desk asked c.args.key (Ok (keyed.New c.in-Ok-New.number)) c.submit_keyed.new.self =
    subst (λ r. SubmitsKeyed old.desk asked c.args.key r c.submit_keyed.new.self) (c.in-Ok-New.is ∙ ap (λ (k : Keyed). Ok k) c.in-Ok-New.field-0-is) c.submit_keyed.ensures.board in
    let has = event_new old.desk (joined old.desk found.2.0) c.submit_keyed.new.self (length old.runs.items) c.len-before.result (joined_between old.desk found.2.0) found.2.2 c.requires.staged.all (c.len-before.ensures ∙ ap (λ (b : Board). length b.trace) c.trace.ensures) in
    let goes = event_goes old c.begin-starts.new.self _ _ old.runs.items _ _ found.2.2 has c.begin-starts.ensures.staged c.begin-starts.ensures.desk c.begin-starts.ensures.starts c.begin-starts.ensures.files c.begin-starts.ensures.opening in
    subst (λ n. Answers (scene_of old) (call_key asked c.args.key) (with_starts (Number n) c.begin-starts.result) (scene_of c.begin-starts.new.self)) (sym found.1) (called_key found.2.0 found.0 found.2.1 goes)

pub returns-in-Ok-Kept-clause-answers : goal.returns-in-Ok-Kept-clause-answers
returns-in-Ok-Kept-clause-answers c =
    let old = c.args.self.now in
    let asked : Asked = record { session = c.args.session; name = c.args.op.now; arguments = c.args.args.now } in
    let found : SubmitsKeyed old.desk asked c.args.key (Ok (keyed.Kept c.in-Ok-Kept.kept)) c.submit_keyed.new.self =
    subst (λ r. SubmitsKeyed old.desk asked c.args.key r c.submit_keyed.new.self) (c.in-Ok-Kept.is ∙ ap (λ (k : Keyed). Ok k) c.in-Ok-Kept.field-0-is) c.submit_keyed.ensures.board in
    let put : Board → WorldTables = λ b. record old { desk = b } in
    subst (λ (x : EventAnswer). Answers (scene_of old) (call_key asked c.args.key) x (scene_of (put c.submit_keyed.new.self))) (sym c.only.ensures)
    (subst (λ (b : Board). Answers (scene_of old) (call_key asked c.args.key) (with_starts (Kept c.in-Ok-Kept.kept) 0) (scene_of (put b))) (sym found.2) (kept c.in-Ok-Kept.kept found.0 found.1))

pub returns-in-Err-clause-answers : goal.returns-in-Err-clause-answers
returns-in-Err-clause-answers c =
    let old = c.args.self.now in
    let asked : Asked = record { session = c.args.session; name = c.args.op.now; arguments = c.args.args.now } in
    let found : SubmitsKeyed old.desk asked c.args.key (Err c.in-Err.fault) c.submit_keyed.new.self = subst (λ r. SubmitsKeyed old.desk asked c.args.key r c.submit_keyed.new.self) c.in-Err.is c.submit_keyed.ensures.board in
    let refused = refused_key old.desk c.submit_keyed.new.self asked c.args.key c.in-Err.fault found in
    let put : Board → WorldTables = λ b. record old { desk = b } in
    subst (λ (x : EventAnswer). Answers (scene_of old) (call_key asked c.args.key) x (scene_of (put c.submit_keyed.new.self))) (sym c.only-in-Err.ensures)
    (subst (λ (b : Board). Answers (scene_of old) (call_key asked c.args.key) (with_starts (Refused (KeyRefused c.in-Err.fault)) 0) (scene_of (put b))) (sym refused.0) (not_called_key c.in-Err.fault refused.1))
