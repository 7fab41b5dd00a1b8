use Rattle.std.proofs.Common.{subst, Result}
use Rattle.guest_core.specs.declared.answer.SubmitFault.{SubmitFault}
use Rattle.live_core.specs.declared.live.Taken.{Taken}
use Rattle.client_core.specs.State.{peers_of}
use Rattle.table_core.specs.Objects.{CallsAt}
use Rattle.table_core.proofs.Submitting.{makes_at}
use Rattle.client_core.specs.Views.{custodies_of}
use Rattle.table_core.proofs.table.Table.make_call.Goals as goal

pub returns-in_ok-add-in-Ok : goal.returns-in_ok-add-in-Ok
returns-in_ok-add-in-Ok c = makes_at (custodies_of c.args.self.now.custody) c.args.post.now c.add.new.self c.args.self.now.objects.items c.call_at.new.objects.items (peers_of c.args.self.now.clients) c.args.ready.seat
    c.args.ready.operation c.args.arguments.items c.in-Ok.taken c.call_at.new.line.items c.deref.result.now
    (subst (λ (r : Result Taken SubmitFault). CallsAt c.args.self.now.objects.items c.args.ready.seat.object c.args.ready.seat.session c.args.ready.operation c.args.arguments.items r c.call_at.new.line.items c.call_at.new.objects.items)
    c.in-Ok.is c.in_ok-fault.ensures)
    c.deref.ensures.value c.in_ok-add-in-Ok.ensures
