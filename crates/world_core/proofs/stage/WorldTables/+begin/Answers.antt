use Rattle.std.proofs.Common.{arith, ◌≡◌, ◌≤◌, ◌<◌, [], List, Some, length, map, sym, ◌∙◌, ap, subst, append-nil}
use Rattle.std.specs.Prelude.{slice_get}
use Rattle.board_core.specs.declared.event.TraceEvent.{TraceEvent}
use Rattle.board_core.specs.declared.event.TraceEvent.TheVariants.{End}
use Rattle.page_core.specs.ObjectCalls.{WaitingCall}
use Rattle.board_core.specs.Board.{Board}
use Rattle.board_core.specs.Started.{run_of}
use Rattle.world_core.specs.Scene.{AreBegun}
use Rattle.world_core.specs.Kept.{HasNew}
use Rattle.world_core.proofs.Beginning.{new_over, none_new, next_new, new_more, not_end, new_few, event_there, next_run, all_begun}
use Rattle.world_core.proofs.Places.{within}
use Rattle.world_core.proofs.stage.WorldTables.+begin.Goals as goal

pub returns-then-from-len-clause-staged : goal.returns-then-from-len-clause-staged
returns-then-from-len-clause-staged t c =
    let old = c.args.self.now in
    let new = c.requires.new in
    let over : length old.desk.trace ≤ c.args.from = omega (arith, c.if-from-len.true, c.len.ensures, ap (λ (b : Board). length b.trace) c.trace.ensures) in
    let none = subst (HasNew old.desk (length old.runs.items) c.args.from) (new_over _ _ _ _ new.1 over) new.1 in
    record { kept = c.requires.kept; all = none_new _ _ _ _ _ c.requires.kept none; room = c.requires.room }

pub returns-then-from-len-clause-starts : goal.returns-then-from-len-clause-starts
returns-then-from-len-clause-starts t c = λ ones new.
    let old = c.args.self.now in
    let over : length old.desk.trace ≤ c.args.from = omega (arith, c.if-from-len.true, c.len.ensures, ap (λ (b : Board). length b.trace) c.trace.ensures) in
    let none : ones ≡ [] = new_over _ _ _ _ new over in (
      sym (ap (λ (ws : List WaitingCall). length ws) none),
      ([], subst (λ (ws : List WaitingCall). AreBegun (map (run_of old.desk.pins) ws) []) (sym none) tt, sym (append-nil _)),
    )

pub begin_run-requires-clause-next : goal.begin_run-requires-clause-next
begin_run-requires-clause-next t c =
    let old = c.args.self.now in
    let at : slice_get old.desk.trace c.args.from ≡ Some c.in-Some-Start.field-0 = sym (ap (λ (b : Board). slice_get b.trace c.args.from) c.trace-2.ensures) ∙ sym c.get.ensures ∙ c.in-Some-Start.is in
    let new = next_new _ _ _ _ c.in-Some-Start.field-0 c.requires.new.1 at in
    let number : new.0.number ≡ c.in-Some-Start.number = let e = new.4 in let f = c.in-Some-Start.field-0-is in cc in
    (run_of old.desk.pins new.0, (new_more _ _ _ _ _ new.2).0, number)

pub begin_run-requires-clause-room : goal.begin_run-requires-clause-room
begin_run-requires-clause-room t c =
    let old = c.args.self.now in
    let at : slice_get old.desk.trace c.args.from ≡ Some c.in-Some-Start.field-0 = sym (ap (λ (b : Board). slice_get b.trace c.args.from) c.trace-2.ensures) ∙ sym c.get.ensures ∙ c.in-Some-Start.is in
    let new = next_new _ _ _ _ c.in-Some-Start.field-0 c.requires.new.1 at in
    omega (arith, within old.desk.running (length old.runs.items) (run_of old.desk.pins new.0) (new_more _ _ _ _ _ new.2).0, c.requires.kept.sound.counted.open_few, c.requires.room)

pub begin-others-requires : goal.begin-others-requires
begin-others-requires t c =
    let old = c.args.self.now in
    let at : slice_get old.desk.trace c.args.from ≡ Some c.in-Some-Start.field-0 = sym (ap (λ (b : Board). slice_get b.trace c.args.from) c.trace-2.ensures) ∙ sym c.get.ensures ∙ c.in-Some-Start.is in
    let new = next_new _ _ _ _ c.in-Some-Start.field-0 c.requires.new.1 at in
    let next = next_run old.desk _ old.runs.items _ c.args.from new.0 new.1 new.2 c.begin_run.ensures.desk c.begin_run.ensures.runs in
    let low : c.args.from < length old.desk.trace = omega (arith, c.if-from-len.false, c.len.ensures, ap (λ (b : Board). length b.trace) c.trace.ensures) in
    let same : length c.begin_run.new.self.desk.trace ≡ length old.desk.trace = ap (λ (es : List TraceEvent). length es) next.trace in
    let d = c.decreases in
    (omega (arith, low, same, d), (c.begin_run.ensures.kept, ((new.1, next.new), omega (arith, c.requires.room, c.begin_run.ensures.room))))

pub overflow_add-result : goal.overflow_add-result
overflow_add-result t c =
    let old = c.args.self.now in
    let at : slice_get old.desk.trace c.args.from ≡ Some c.in-Some-Start.field-0 = sym (ap (λ (b : Board). slice_get b.trace c.args.from) c.trace-2.ensures) ∙ sym c.get.ensures ∙ c.in-Some-Start.is in
    let new = next_new _ _ _ _ c.in-Some-Start.field-0 c.requires.new.1 at in
    let next = next_run old.desk _ old.runs.items _ c.args.from new.0 new.1 new.2 c.begin_run.ensures.desk c.begin_run.ensures.runs in
    let count = (c.begin-others.ensures.starts new.1 next.new).0 in
    let few = new_few c.begin_run.new.self.desk _ _ new.1 next.new in
    let fit = c.begin_run.ensures.kept.sound.counted.open_few in
    omega (arith, count, few, fit)

pub unreachable-requires : goal.unreachable-requires
unreachable-requires t c =
    let old = c.args.self.now in
    let at : slice_get old.desk.trace c.args.from ≡ Some (End c.in-Some-End.field-0-0 c.in-Some-End.field-0-1) = sym (ap (λ (b : Board). slice_get b.trace c.args.from) c.trace-2.ensures) ∙ sym c.get.ensures ∙ c.in-Some-End.is ∙ ap (λ (e : TraceEvent). Some e) c.in-Some-End.field-0-is in
    not_end _ _ _ _ _ _ c.requires.new.1 at

pub unreachable-requires-in-None : goal.unreachable-requires-in-None
unreachable-requires-in-None t c =
    let old = c.args.self.now in
    let low : c.args.from < length old.desk.trace = omega (arith, c.if-from-len.false, c.len.ensures, ap (λ (b : Board). length b.trace) c.trace.ensures) in
    event_there old.desk c.args.from low (sym (ap (λ (b : Board). slice_get b.trace c.args.from) c.trace-2.ensures) ∙ sym c.get.ensures ∙ c.in-None.is)

pub returns-clause-desk : goal.returns-clause-desk
returns-clause-desk t c =
    let old = c.args.self.now in
    let at : slice_get old.desk.trace c.args.from ≡ Some c.in-Some-Start.field-0 = sym (ap (λ (b : Board). slice_get b.trace c.args.from) c.trace-2.ensures) ∙ sym c.get.ensures ∙ c.in-Some-Start.is in
    let new = next_new _ _ _ _ c.in-Some-Start.field-0 c.requires.new.1 at in
    let next = next_run old.desk _ old.runs.items _ c.args.from new.0 new.1 new.2 c.begin_run.ensures.desk c.begin_run.ensures.runs in
    c.begin-others.ensures.desk ∙ next.collected

pub returns-clause-starts : goal.returns-clause-starts
returns-clause-starts t c = λ ones has.
    let old = c.args.self.now in
    let at : slice_get old.desk.trace c.args.from ≡ Some c.in-Some-Start.field-0 = sym (ap (λ (b : Board). slice_get b.trace c.args.from) c.trace-2.ensures) ∙ sym c.get.ensures ∙ c.in-Some-Start.is in
    let new = next_new _ _ _ ones c.in-Some-Start.field-0 has at in
    let next = next_run old.desk _ old.runs.items _ c.args.from new.0 new.1 new.2 c.begin_run.ensures.desk c.begin_run.ensures.runs in
    all_begun old.desk _ old.runs.items _ _ c.args.from _ new.0 new.1 ones next new.3 (c.begin-others.ensures.starts new.1 next.new)
