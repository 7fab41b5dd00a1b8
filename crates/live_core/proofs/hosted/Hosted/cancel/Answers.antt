use Rattle.std.proofs.Common.{subst}
use Rattle.live_core.specs.Calls.{TellsCancel}
use Rattle.live_core.proofs.Calling.{cancelled_by}
use Rattle.live_core.proofs.hosted.Hosted.cancel.Goals as goal

pub returns : goal.returns
returns c =
    cancelled_by c.args.self.now c.add.new.self c.let_go.new.self c.args.session c.in-Some.found c.args.lines.now.items c.tell_cancel.new.lines.items
    (subst (λ f. TellsCancel c.args.self.now c.args.session c.args.lines.now.items f c.tell_cancel.new.lines.items) c.in-Some.is c.in_ok-found.ensures)
    c.add.ensures (c.let_go.ensures.gone c.if-not-let_go.false)
