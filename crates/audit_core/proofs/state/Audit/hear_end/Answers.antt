use Rattle.std.proofs.Common.{◌≡◌, ◌≢◌, ℕ, ◌+◌, ◌∷◌, length, sym, ◌∙◌, ap, refl, subst, arith, slice_index_or}
use Rattle.std.proofs.lemmas.Bool.{false≢true}
use Rattle.path_tree.specs.Trace.{End}
use Rattle.decl_core.specs.ObjectMap.{object_of}
use Rattle.word_core.specs.Events.{ended, call_of, trace_of, body_at}
use Rattle.apply_core.specs.History.{IsReplyOn}
use Rattle.audit_core.specs.Tells.{end_told}
use Rattle.audit_core.specs.Calls.{called, AreSlots}
use Rattle.std.specs.Vec.{with_items}
use Rattle.std.proofs.lemmas.List.{with_items_is}
use Rattle.audit_core.specs.declared.state.Audit.{Audit}
use Rattle.audit_core.specs.Counting.{AreCounters}
use Rattle.audit_core.specs.Replies.{CanDo}
use Rattle.audit_core.specs.View.{told_view}
use Rattle.audit_core.specs.declared.calls.CallSlot.TheVariants.{Fresh, Runs, Ended}
use Rattle.audit_core.proofs.Hearing.{end_bad}
use Rattle.audit_core.proofs.Slots.{slot_stranger, slot_runs, running_among}
use Rattle.audit_core.proofs.Standing.{end_stands, can_do}
use Rattle.audit_core.proofs.state.Audit.hear_end.Goals as goal
use Rattle.audit_core.proofs.state.Audit.hear_end.Goals.{then-not-is_opened-via-then-not-is_opened, then-not-is_opened-via-else-not-is_opened+then-not-is_call_number}

pub returns-then-not-is_opened-clause-heard : goal.returns-then-not-is_opened-clause-heard
returns-then-not-is_opened-clause-heard c = λ line heard s says. end_bad (object_of c.args.object.now) heard line c.args.number (told_view c.args.told.now) says
    (λ opened is. elim c.then-not-is_opened.branch [
      | then-not-is_opened-via-then-not-is_opened w ↦ false≢true (sym w.if-not-is_opened.true ∙ (c.is_opened.ensures heard s).1 opened)
      | then-not-is_opened-via-else-not-is_opened+then-not-is_call_number w ↦ false≢true (sym w.if-not-is_call_number.true ∙ w.is_call_number.ensures.1 is)
    ])

pub returns-in_default-clause-heard : goal.returns-in_default-clause-heard
returns-in_default-clause-heard c = λ line heard s says.
    let slots : AreSlots c.deref_mut.result.now heard.past = subst (λ xs. AreSlots xs heard.past) (sym c.deref_mut.ensures.value) s.slots in
    record {
      number = c.args.number;
      reply = (told_view c.args.told.now);
      opened = (c.is_opened.ensures heard s).0 c.if-not-is_opened.false;
      says = says;
      is = c.is_call_number.ensures.0 c.if-not-is_call_number.false;
      none = slot_stranger c.deref_mut.result.now heard.past c.args.number slots c.in_default.ensures.none;
    }

pub returns-then-not-branch-clause-heard : goal.returns-then-not-branch-clause-heard
returns-then-not-branch-clause-heard c = λ line heard s says.
    let o = object_of c.args.object.now in
    let r = c.in-Some.running in
    let was : slice_index_or c.args.self.now.calls.items c.args.number Fresh ≡ Runs r = subst (λ xs. slice_index_or xs c.args.number Fresh ≡ Runs r) c.deref_mut.ensures.value c.in-Some.ensures.found.0 in
    let runs = slot_runs c.args.self.now.calls.items heard.past c.args.number r s.slots was in
    let opened = (c.is_opened.ensures heard s).0 c.if-not-is_opened.false in
    let can : CanDo o r c.args.self.now.parts.items = can_do o c.args.self.now heard c.args.number r s opened runs in
    record {
      call = called c.args.number r;
      reply = (told_view c.args.told.now);
      told = end_told says opened (c.is_call_number.ensures.0 c.if-not-is_call_number.false) refl runs;
      wrong = λ is. (rw c.if-not-branch.true at c.in_ok-is_right.ensures) can (subst (IsReplyOn (told_view c.args.told.now) (body_at o r.operation) r.arguments.items) (sym s.contents) is);
    }

pub returns-clause-heard : goal.returns-clause-heard
returns-clause-heard c = λ line heard s says.
    let o = object_of c.args.object.now in
    let r = c.in-Some.running in
    let was : slice_index_or c.args.self.now.calls.items c.args.number Fresh ≡ Runs r = subst (λ xs. slice_index_or xs c.args.number Fresh ≡ Runs r) c.deref_mut.ensures.value c.in-Some.ensures.found.0 in
    let others : (n : ℕ) → n ≢ c.args.number → slice_index_or c.take_running.new.slots n Fresh ≡ slice_index_or c.args.self.now.calls.items n Fresh =
    λ n other. c.in-Some.ensures.others n other ∙ ap (λ xs. slice_index_or xs n Fresh) c.deref_mut.ensures.value in
    let runs = slot_runs c.args.self.now.calls.items heard.past c.args.number r s.slots was in
    let opened = (c.is_opened.ensures heard s).0 c.if-not-is_opened.false in
    let can : CanDo o r c.args.self.now.parts.items = can_do o c.args.self.now heard c.args.number r s opened runs in
    let right = (rw c.if-not-branch.false at c.in_ok-is_right.ensures) can in
    let new : Audit = record { alloc = c.args.self.now.alloc; counters = with_items c.args.self.now.counters c.finish_each.new.counters; parts = c.is_right.new.parts; calls = with_items c.args.self.now.calls c.take_running.new.slots; named = c.args.self.now.named; entries = c.args.self.now.entries + 1 } in
    let counters : AreCounters c.finish_each.new.counters (length o.operations) o.paths (End (call_of (called c.args.number r)) ∷ trace_of heard.past) =
    c.finish_each.ensures (length o.operations) o.paths (trace_of heard.past) (call_of (called c.args.number r)) (subst (λ cs. AreCounters cs (length o.operations) o.paths (trace_of heard.past)) (sym c.deref_mut-2.ensures.value) s.counters) can.there refl (running_among heard.past (called c.args.number r) runs) in
    let size : length c.finish_each.new.counters ≡ c.args.self.now.counters.len = omega (arith, c.finish_each.auto.counters, c.deref_mut-2.ensures.len) in
    let kept = subst (λ cs. AreCounters cs (length o.operations) o.paths (End (call_of (called c.args.number r)) ∷ trace_of heard.past)) (sym (with_items_is c.args.self.now.counters c.finish_each.new.counters size)) counters in
    let many : length c.take_running.new.slots ≡ c.args.self.now.calls.len = omega (arith, c.take_running.auto.slots, c.deref_mut.ensures.len) in
    let calls = sym (with_items_is c.args.self.now.calls c.take_running.new.slots many) in (
      record heard { past = ended (called c.args.number r) (told_view c.args.told.now) ∷ heard.past },
      end_told says opened (c.is_call_number.ensures.0 c.if-not-is_call_number.false) refl runs,
      end_stands o c.args.self.now new heard c.args.number r (told_view c.args.told.now) s opened was (subst (λ xs. slice_index_or xs c.args.number Fresh ≡ Ended) calls c.in-Some.ensures.found.1) (λ n other. ap (λ xs. slice_index_or xs n Fresh) (sym calls) ∙ others n other) kept right.0 right.1 right.2 refl refl,
    )
