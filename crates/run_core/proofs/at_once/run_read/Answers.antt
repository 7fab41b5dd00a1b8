use Rattle.std.proofs.Common.{◌≡◌, List, [], refl, sym, subst, arith}
use Rattle.std.proofs.lemmas.List.{nil_from_length}
use Rattle.std.specs.Arc.{arc_value}
use Rattle.decl_core.specs.Bodies.{body_of}
use Rattle.run_core.specs.declared.judge.Change.{Change}
use Rattle.page_core.specs.Given.{IsDone}
use Rattle.run_core.specs.Written.{WritesInOrder, parts_changed}
use Rattle.run_core.specs.declared.judge.Verdict.{Verdict}
use Rattle.run_core.specs.declared.judge.Verdict.TheVariants.{Done, Refused, Damaged}
use Rattle.run_core.specs.Judged.{OnlyWrites}
use Rattle.run_core.specs.Wholes.{AreChangesOf}
use Rattle.page_core.specs.CallPins.{Call}
use Rattle.run_core.specs.Tasks.{task_call}
use Rattle.page_core.specs.Truths.{PinHolds, PinsAreWhole}
use Rattle.run_core.specs.Seen.{JudgedBy}
use Rattle.run_core.proofs.Telling.{told_of, renewed_of}
use Rattle.run_core.proofs.WritingAll.{no_plan, none_changed}
use Rattle.apply_core.specs.declared.reply.Failure.TheVariants as failures
use Rattle.run_core.proofs.MadeAtOnce.{reads_alone, reads_and_writes, fault_of_device, failure_in_reply}
use Rattle.run_core.proofs.Serving.{no_files}
use Rattle.run_core.proofs.at_once.run_read.Goals as goal

pub written-requires-clause-rising : goal.written-requires-clause-rising
written-requires-clause-rising g c =
    let operation = arc_value c.args.task.operation in
    let writes : OnlyWrites operation (Done c.in-Done.reply c.in-Done.changes) = subst (λ (v : Verdict). OnlyWrites operation v) c.in-Done.is c.in-Ok.ensures.writes in
    subst (λ (cs : List Change). WritesInOrder (body_of operation).statements 0 (parts_changed cs)) (sym c.deref.ensures.value) writes.0

pub returns-then-is_empty-clause-told : goal.returns-then-is_empty-clause-told
returns-then-is_empty-clause-told g c = λ a agrees seen still.
    let task = c.args.task in
    let call = task_call task in
    let known = c.judged.new.seen.known in
    let read = c.judged.new.seen.read.items in
    let whole : PinsAreWhole a call = subst (λ (other : Call). PinsAreWhole a other) c.over-then-is_empty.ensures.call still in
    let found = c.in-Ok.ensures.found a agrees whole (seen whole) in
    let judged : JudgedBy a call known read (Done c.in-Done.reply c.in-Done.changes) = subst (λ (v : Verdict). JudgedBy a call known read v) c.in-Done.is found.1 in
    let none : c.in-Done.changes.items ≡ [] = nil_from_length c.in-Done.changes.items (search (arith, c.if-is_empty.ensures)) in
    let plan = c.plans_are_whole.ensures a call known read c.in-Done.reply [] [] [] [] [] whole (λ p reads. task.pinned p (task.named p reads)) found.0 tt
    (subst (λ (cs : List Change). IsDone (PinHolds a call.pins) call.operation call.arguments c.in-Done.reply (AreChangesOf known call.operation read (PinHolds a call.pins) cs)) none judged) (no_plan call.pins read) in
    told_of a call _ _ _ [] _ c.over-then-is_empty.ensures.call c.over-then-is_empty.ensures.reply c.over-then-is_empty.ensures.news (none_changed a call c.in-Done.reply plan).0

pub returns-then-is_empty-clause-renewed : goal.returns-then-is_empty-clause-renewed
returns-then-is_empty-clause-renewed g c = λ a agrees whole seen.
    let task = c.args.task in
    let call = task_call task in
    let known = c.judged.new.seen.known in
    let read = c.judged.new.seen.read.items in
    let found = c.in-Ok.ensures.found a agrees whole seen in
    let judged : JudgedBy a call known read (Done c.in-Done.reply c.in-Done.changes) = subst (λ (v : Verdict). JudgedBy a call known read v) c.in-Done.is found.1 in
    let none : c.in-Done.changes.items ≡ [] = nil_from_length c.in-Done.changes.items (search (arith, c.if-is_empty.ensures)) in
    let plan = c.plans_are_whole.ensures a call known read c.in-Done.reply [] [] [] [] [] whole (λ p reads. task.pinned p (task.named p reads)) found.0 tt
    (subst (λ (cs : List Change). IsDone (PinHolds a call.pins) call.operation call.arguments c.in-Done.reply (AreChangesOf known call.operation read (PinHolds a call.pins) cs)) none judged) (no_plan call.pins read) in
    renewed_of a call _ _ _ [] _ [] _ [] _ c.over-then-is_empty.ensures.call c.over-then-is_empty.ensures.reply c.over-then-is_empty.ensures.sealed c.over-then-is_empty.ensures.news c.over-then-is_empty.ensures.gone (none_changed a call c.in-Done.reply plan).1

pub returns-in-Refused-clause-told : goal.returns-in-Refused-clause-told
returns-in-Refused-clause-told g c = λ a agrees seen still.
    let call = task_call c.args.task in
    let known = c.judged.new.seen.known in
    let read = c.judged.new.seen.read.items in
    let whole : PinsAreWhole a call = subst (λ (other : Call). PinsAreWhole a other) c.over-in-Refused.ensures.call still in
    let judged : JudgedBy a call known read (Refused c.in-Refused.word) = subst (λ (v : Verdict). JudgedBy a call known read v) c.in-Refused.is (c.in-Ok.ensures.found a agrees whole (seen whole)).1 in
    told_of a call _ _ _ [] _ c.over-in-Refused.ensures.call c.over-in-Refused.ensures.reply c.over-in-Refused.ensures.news (judged, refl)

pub returns-in-Refused-clause-renewed : goal.returns-in-Refused-clause-renewed
returns-in-Refused-clause-renewed g c = λ a agrees whole seen.
    renewed_of a (task_call c.args.task) _ _ _ [] _ [] _ [] _ c.over-in-Refused.ensures.call c.over-in-Refused.ensures.reply c.over-in-Refused.ensures.sealed c.over-in-Refused.ensures.news c.over-in-Refused.ensures.gone refl

pub returns-in-Damaged-clause-told : goal.returns-in-Damaged-clause-told
returns-in-Damaged-clause-told g c = λ a agrees seen still.
    let call = task_call c.args.task in
    let known = c.judged.new.seen.known in
    let read = c.judged.new.seen.read.items in
    let whole : PinsAreWhole a call = subst (λ (other : Call). PinsAreWhole a other) c.over-in-Damaged.ensures.call still in
    let judged : JudgedBy a call known read Damaged = subst (λ (v : Verdict). JudgedBy a call known read v) c.in-Damaged.is (c.in-Ok.ensures.found a agrees whole (seen whole)).1 in
    told_of a call _ _ _ [] _ c.over-in-Damaged.ensures.call c.over-in-Damaged.ensures.reply c.over-in-Damaged.ensures.news judged

pub returns-in-Done-clause-told : goal.returns-in-Done-clause-told
returns-in-Done-clause-told g c = λ a agrees seen still.
    let call = task_call c.args.task in
    let known = c.judged.new.seen.known in
    let read = c.judged.new.seen.read.items in
    let there = c.written.ensures.kept a agrees in
    let whole : PinsAreWhole a call = subst (λ (other : Call). PinsAreWhole a other) c.written.ensures.call still in
    let found = c.in-Ok.ensures.found a there whole (seen whole) in
    let judged : JudgedBy a call known read (Done c.in-Done.reply c.in-Done.changes) = subst (λ (v : Verdict). JudgedBy a call known read v) c.in-Done.is found.1 in
    c.written.ensures.told a agrees whole found.0
    (subst (λ (cs : List Change). IsDone (PinHolds a call.pins) call.operation call.arguments c.in-Done.reply (AreChangesOf known call.operation read (PinHolds a call.pins) cs)) (sym c.deref.ensures.value) judged) still

pub returns-in-Done-clause-renewed : goal.returns-in-Done-clause-renewed
returns-in-Done-clause-renewed g c = λ a agrees whole seen.
    let call = task_call c.args.task in
    let known = c.judged.new.seen.known in
    let read = c.judged.new.seen.read.items in
    let there = c.written.ensures.kept a agrees in
    let found = c.in-Ok.ensures.found a there whole seen in
    let judged : JudgedBy a call known read (Done c.in-Done.reply c.in-Done.changes) = subst (λ (v : Verdict). JudgedBy a call known read v) c.in-Done.is found.1 in
    c.written.ensures.renewed a agrees whole found.0
    (subst (λ (cs : List Change). IsDone (PinHolds a call.pins) call.operation call.arguments c.in-Done.reply (AreChangesOf known call.operation read (PinHolds a call.pins) cs)) (sym c.deref.ensures.value) judged)

pub returns-in-Err-clause-makes : goal.returns-in-Err-clause-makes
returns-in-Err-clause-makes g c = reads_alone g.H.Hand.makes (task_call c.args.task) c.args.seen.known _ _ c.args.hand.now c.judged.new.hand c.over.ensures.sealed c.judged.ensures.makes

pub returns-in-Err-clause-written : goal.returns-in-Err-clause-written
returns-in-Err-clause-written g c = no_files (g.H.Hand.serves c.judged.new.hand) _ c.over.ensures.sealed

pub returns-then-is_empty-clause-makes : goal.returns-then-is_empty-clause-makes
returns-then-is_empty-clause-makes g c = reads_alone g.H.Hand.makes (task_call c.args.task) c.args.seen.known _ _ c.args.hand.now c.judged.new.hand c.over-then-is_empty.ensures.sealed c.judged.ensures.makes

pub returns-then-is_empty-clause-written : goal.returns-then-is_empty-clause-written
returns-then-is_empty-clause-written g c = no_files (g.H.Hand.serves c.judged.new.hand) _ c.over-then-is_empty.ensures.sealed

pub returns-in-Refused-clause-makes : goal.returns-in-Refused-clause-makes
returns-in-Refused-clause-makes g c = reads_alone g.H.Hand.makes (task_call c.args.task) c.args.seen.known _ _ c.args.hand.now c.judged.new.hand c.over-in-Refused.ensures.sealed c.judged.ensures.makes

pub returns-in-Refused-clause-written : goal.returns-in-Refused-clause-written
returns-in-Refused-clause-written g c = no_files (g.H.Hand.serves c.judged.new.hand) _ c.over-in-Refused.ensures.sealed

pub returns-in-Damaged-clause-makes : goal.returns-in-Damaged-clause-makes
returns-in-Damaged-clause-makes g c = reads_alone g.H.Hand.makes (task_call c.args.task) c.args.seen.known _ _ c.args.hand.now c.judged.new.hand c.over-in-Damaged.ensures.sealed c.judged.ensures.makes

pub returns-in-Damaged-clause-written : goal.returns-in-Damaged-clause-written
returns-in-Damaged-clause-written g c = no_files (g.H.Hand.serves c.judged.new.hand) _ c.over-in-Damaged.ensures.sealed

pub returns-in-Done-clause-makes : goal.returns-in-Done-clause-makes
returns-in-Done-clause-makes g c = reads_and_writes g.H.Hand.makes (task_call c.args.task) c.args.seen.known _ _ c.args.hand.now c.judged.new.hand c.written.new.hand c.judged.ensures.makes c.written.ensures.makes

pub returns-in-Err-clause-in_order : goal.returns-in-Err-clause-in_order
returns-in-Err-clause-in_order g c = λ always served is. c.in-Err.ensures.in_order always served (fault_of_device c.in-Err.fault c.failure.result c.failure.ensures (failure_in_reply _ c.failure.result failures.Device c.over.ensures.reply is))

pub returns-in-Done-clause-in_order : goal.returns-in-Done-clause-in_order
returns-in-Done-clause-in_order g c = λ always served. c.written.ensures.in_order (c.judged.ensures.works always)

pub returns-clause-makes : goal.returns-clause-makes
returns-clause-makes g c = reads_alone g.H.Hand.makes (task_call c.args.task) c.args.seen.known _ _ c.args.hand.now c.judged.new.hand c.over-in_default.ensures.sealed c.judged.ensures.makes
