use Rattle.std.proofs.Common.{List, Err, length, ap, ◌∙◌, subst}
use Rattle.value_core.specs.Contents.{Contents}
use Rattle.run_core.specs.Given.{AreChanges}
use Rattle.run_core.specs.Verdicts.{ReadAs, MayLeave}
use Rattle.run_core.proofs.DecodedParts.{holds}
use Rattle.run_core.specs.Judged.{StoppedAs}
use Rattle.run_core.proofs.Deciding.{same_length_kinds}
use Rattle.run_core.proofs.Stopping.{within, judged, next, writes, settled}
use Rattle.run_core.proofs.Wholes.{is_done}
use Rattle.run_core.proofs.judge.judge_parts.Goals as goal

pub evaluate-requires-clause-held : goal.evaluate-requires-clause-held
evaluate-requires-clause-held c = holds c.args.operation.now c.args.read.now c.args.parts.items c.requires.spelled

pub stopped-requires : goal.stopped-requires
stopped-requires c = record {
  there =
      within c.args.known.now c.args.operation.now c.args.args.now c.args.parts.items c.deref-in-Err.result.now c.in-Err.stop c.in-Err.ensures.stopped
      (ap length c.deref-in-Err.ensures.value ∙ same_length_kinds c.evaluate.new.parts.values.items c.args.parts.items c.in-Err.ensures.kinds);
}

pub returns-in-Ok-changes_of-clause-judged : goal.returns-in-Ok-changes_of-clause-judged
returns-in-Ok-changes_of-clause-judged c whole known =
    let changes = c.in-Ok-changes_of.changes.items in
    let all : (before : List Contents) → MayLeave c.args.operation.now c.args.read.now before c.evaluate.new.parts.values.items → AreChanges changes before c.evaluate.new.parts.values.items =
    subst (λ (after : List Contents). (before : List Contents) → MayLeave c.args.operation.now c.args.read.now before after → AreChanges changes before after) c.deref.ensures.value c.in-Ok-changes_of.ensures.changes in
    is_done c.args.known.now c.args.operation.now c.args.args.now c.args.read.now (ReadAs whole) c.args.parts.items c.evaluate.new.parts.values.items c.in-Ok.reply c.requires.spelled c.requires.few c.requires.masks c.in-Ok.ensures.done
    changes known c.in-Ok-changes_of.ensures.rising all

pub returns-clause-judged : goal.returns-clause-judged
returns-clause-judged c = judged c.args.known.now c.args.operation.now c.args.args.now c.args.read.now c.args.parts.items c.deref-in-Err.result.now c.in-Err.stop c.stopped.result c.requires.spelled c.in-Err.ensures.stopped c.stopped.ensures

pub returns-clause-next : goal.returns-clause-next
returns-clause-next c =
    next c.args.known.now c.args.operation.now c.args.args.now c.args.read.now c.args.parts.items c.evaluate.new.parts.values.items c.in-Err.stop c.stopped.result c.requires.spelled c.requires.masks c.requires.few c.in-Err.ensures.stopped c.in-Err.ensures.kinds
    (subst (λ (after : List Contents). StoppedAs after c.in-Err.stop c.stopped.result) c.deref-in-Err.ensures.value c.stopped.ensures)

pub returns-clause-writes : goal.returns-clause-writes
returns-clause-writes c = writes c.args.operation.now c.deref-in-Err.result.now c.in-Err.stop c.stopped.result c.stopped.ensures

pub returns-clause-settled : goal.returns-clause-settled
returns-clause-settled c = settled c.args.known.now c.args.operation.now c.args.args.now c.args.parts.items c.deref-in-Err.result.now c.in-Err.stop c.stopped.result c.in-Err.ensures.stopped (λ is. c.in-Err.ensures.memory (ap (λ s. Err s) is)) c.stopped.ensures
