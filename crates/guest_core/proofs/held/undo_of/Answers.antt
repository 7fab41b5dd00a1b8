use Rattle.std.proofs.Common.{ap, arith}
use Rattle.decl_core.specs.HoldMap.{holds_of}
use Rattle.guest_core.specs.Held.{HeldCall}
use Rattle.decl_core.specs.ObjectMap.{object_of}
use Rattle.guest_core.proofs.Undoing.{undo_is, no_undo, no_operation}
use Rattle.guest_core.proofs.held.undo_of.Goals as goal

pub returns-in-Some : goal.returns-in-Some
returns-in-Some c =
    undo_is c.args.object.now (holds_of c.args.holds.now) c.args.held.now c.held.inside.rule c.in_ok-op.op c.held.inside.values.items c.deref-in-Some-2.result.now c.given.result.now c.deref.result.now c.in-Some.operation.now c.deref-in-Some.result.now
    (ap (λ (h : HeldCall). h.rule) c.held.view_is) (ap (λ (h : HeldCall). h.values) c.held.view_is) c.in_ok-op.ensures c.deref.ensures.value c.in-Some.ensures.lookup.3.0 (c.in-Some.ensures.lookup.3.1 c.in-Some.operation.now) c.deref-in-Some.ensures c.deref-in-Some-2.ensures.value c.given.ensures

pub returns-in_err-op : goal.returns-in_err-op
returns-in_err-op c =
    rw c.from_residual.ensures (no_undo (object_of c.args.object.now) (holds_of c.args.holds.now) c.args.held.now c.held.inside.rule (ap (λ (h : HeldCall). h.rule) c.held.view_is) c.in_err-op.ensures)

pub returns-in-None : goal.returns-in-None
returns-in-None c =
    no_operation c.args.object.now (holds_of c.args.holds.now) c.args.held.now c.held.inside.rule c.in_ok-op.op c.deref.result.now (ap (λ (h : HeldCall). h.rule) c.held.view_is) c.in_ok-op.ensures c.deref.ensures.value (omega (arith, c.in-None.ensures.lookup.3))
