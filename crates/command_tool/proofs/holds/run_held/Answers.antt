use Rattle.std.proofs.Common.{◌≡◌, ℕ, take, sym, subst}
use Rattle.std.specs.Prelude.{IfOk, IfErr}
use Rattle.std.specs.Io.KnownBytes.{Appends}
use Rattle.answer_core.specs.Status.{IsFault}
use Rattle.command_tool.proofs.Scripts.{is_fault}
use Rattle.decl_core.specs.HoldMap.{holds_of}
use Rattle.command_tool.proofs.HeldScripts.{none_written, ran_ended, ran_failed, told_ended, told_failed}
use Rattle.command_tool.proofs.holds.run_held.Goals as goal

pub returns-in-Err-clause-cut : goal.returns-in-Err-clause-cut
returns-in-Err-clause-cut g c =
    (subst IsFault (sym c.from.ensures) (is_fault c.in-Err.fault), none_written (g.R.Read.remaining c.args.reader.now) (g.W.Write.contents c.args.writer.now) c.args.cut.now)

pub returns-in-Ok-Ready-clause-ended : goal.returns-in-Ok-Ready-clause-ended
returns-in-Ok-Ready-clause-ended g c =
    ran_ended c.run_on.result (g.R.Read.remaining c.args.reader.now) (g.R.Read.remaining c.read_head.new.reader) (g.W.Write.contents c.args.writer.now) (g.W.Write.contents c.run_on.new.writer)
    c.args.cut.now c.in-Ok.head.items c.deref.result.now c.deref-in-Ok-Ready.result.now c.in-Ok-Ready.accepted (holds_of c.holds_of-holds.result.items) c.deref.ensures.value c.deref-in-Ok-Ready.ensures.value
    c.in-Ok.ensures.taken c.in-Ok.ensures.enough (rw c.in-Ok-Ready.field-0-is at c.in-Ok-Ready.ensures) c.run_on.ensures.ended

pub returns-in-Ok-Ready-clause-cut : goal.returns-in-Ok-Ready-clause-cut
returns-in-Ok-Ready-clause-cut g c =
    ran_failed c.run_on.result (g.R.Read.remaining c.args.reader.now) (g.R.Read.remaining c.read_head.new.reader) (g.W.Write.contents c.args.writer.now) (g.W.Write.contents c.run_on.new.writer)
    c.args.cut.now c.in-Ok.head.items c.deref.result.now c.deref-in-Ok-Ready.result.now c.in-Ok-Ready.accepted (holds_of c.holds_of-holds.result.items) c.deref.ensures.value c.deref-in-Ok-Ready.ensures.value
    c.in-Ok.ensures.taken c.in-Ok.ensures.enough (rw c.in-Ok-Ready.field-0-is at c.in-Ok-Ready.ensures) c.run_on.ensures.cut

pub returns-in-Ok-Told-clause-ended : goal.returns-in-Ok-Told-clause-ended
returns-in-Ok-Told-clause-ended g c =
    told_ended c.explained_script.result (g.R.Read.remaining c.args.reader.now) (g.R.Read.remaining c.read_head.new.reader) (g.W.Write.contents c.args.writer.now) (g.W.Write.contents c.tell-ended.new.writer)
    c.args.cut.now c.in-Ok.head.items c.deref.result.now c.in-Ok-Told.line.items c.deref-in-Ok-Told.result.now c.deref.ensures.value c.deref-in-Ok-Told.ensures.value
    c.in-Ok.ensures.taken c.in-Ok.ensures.enough (rw c.in-Ok-Told.field-0-is at c.in-Ok-Told.ensures)
    (subst (λ r. IfOk r (λ status. Appends (g.W.Write.contents c.args.writer.now) (g.W.Write.contents c.tell-ended.new.writer) c.deref-in-Ok-Told.result.now × (status ≡ 1))) (sym c.explained_script.ensures.same) c.tell-ended.ensures.ended)

pub returns-in-Ok-Told-clause-cut : goal.returns-in-Ok-Told-clause-cut
returns-in-Ok-Told-clause-cut g c =
    told_failed c.explained_script.result (g.R.Read.remaining c.args.reader.now) (g.R.Read.remaining c.read_head.new.reader) (g.W.Write.contents c.args.writer.now) (g.W.Write.contents c.tell-ended.new.writer)
    c.args.cut.now c.in-Ok.head.items c.deref.result.now c.in-Ok-Told.line.items c.deref-in-Ok-Told.result.now c.deref.ensures.value c.deref-in-Ok-Told.ensures.value
    c.in-Ok.ensures.taken c.in-Ok.ensures.enough (rw c.in-Ok-Told.field-0-is at c.in-Ok-Told.ensures)
    (subst (λ r. IfErr r (λ failure. IsFault failure × ((count : ℕ) × Appends (g.W.Write.contents c.args.writer.now) (g.W.Write.contents c.tell-ended.new.writer) (take count c.deref-in-Ok-Told.result.now)))) (sym c.explained_script.ensures.same) c.tell-ended.ensures.cut)

pub returns-in-Err-open_script-clause-cut : goal.returns-in-Err-open_script-clause-cut
returns-in-Err-open_script-clause-cut g c =
    (tt, none_written (g.R.Read.remaining c.args.reader.now) (g.W.Write.contents c.args.writer.now) c.args.cut.now)
