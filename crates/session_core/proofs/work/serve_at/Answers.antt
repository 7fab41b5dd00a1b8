use Rattle.std.proofs.Common.{ℕ, subst}
use Rattle.office_core.specs.Slips.{told_by}
use Rattle.session_core.proofs.Truths.{more_true}
use Rattle.session_core.specs.Making.{MakesOnce}
use Rattle.session_core.proofs.Making.{one_made}
use Rattle.session_core.proofs.Telling.{as_true}
use Rattle.session_core.proofs.Working.{ran_by, handed_out, worked_on}
use Rattle.session_core.proofs.work.serve_at.Goals as goal

pub returns-clause-told : goal.returns-clause-told
returns-clause-told g c =
    let f = c.completed-finished.result in
    let o = c.completed-finished.new.outcome in
    more_true g.H.Hand.agrees c.args.worked.now.hand c.run_at_once-outcome.new.hand c.put_off.new.hand c.args.worked.now.receipts.items c.make_room.new.receipts.items c.keep.new.receipts.items (told_by f.place c.session-own.result o)
    c.make_room.ensures.same c.keep.ensures (λ a later. c.retire_left.ensures.kept a (c.run_at_once-outcome.ensures.kept a later)) c.put_off.ensures.kept
    (λ a later. as_true a c.run_at_once-outcome.result o c.completed-finished.ensures.same (c.run_at_once-outcome.ensures.told a later))

pub returns-clause-made : goal.returns-clause-made
returns-clause-made g c =
    let f = c.completed-finished.result in
    subst (λ (n : ℕ). MakesOnce n c.args.op.now c.args.args.now c.args.worked.now.receipts.items c.keep.new.receipts.items) c.session-own.ensures
    (one_made c.args.op.now c.args.args.now c.in-Some.ticket c.run_at_once-outcome.result c.completed-finished.new.outcome f.place c.session-own.result c.args.worked.now.receipts.items c.make_room.new.receipts.items c.keep.new.receipts.items
    c.in-Some.ensures.named c.in-Some.ensures.arguments c.run_at_once-outcome.ensures.call c.completed-finished.ensures.same c.make_room.ensures.same c.keep.ensures)

pub returns-clause-works : goal.returns-clause-works
returns-clause-works g c =
    let w = c.args.worked.now in
    let o = c.run_at_once-outcome.result in
    let f = c.completed-finished.result in
    worked_on g.H.Hand.makes w.hand c.retire_left.new.hand c.run_at_once-outcome.new.hand c.put_off.new.hand w.free.items c.retire_left.new.left.items f.free.items c.put_off.new.left.items o
    c.retire_left.ensures.works (ran_by c.in-Some.ticket o c.retire_left.new.hand c.run_at_once-outcome.new.hand c.run_at_once-outcome.ensures.call c.run_at_once-outcome.ensures.makes) (handed_out _ o c.completed-finished.new.outcome f c.completed-finished.ensures.inside) c.put_off.ensures.left
