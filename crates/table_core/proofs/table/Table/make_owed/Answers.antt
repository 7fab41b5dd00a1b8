use Rattle.std.proofs.Common.{subst, Result}
use Rattle.guest_core.specs.declared.answer.SubmitFault.{SubmitFault}
use Rattle.live_core.specs.declared.live.Taken.{Taken}
use Rattle.table_core.specs.Parts.{MakesAt}
use Rattle.table_core.specs.Seen.{seen}
use Rattle.table_core.proofs.Settling.{owed_made}
use Rattle.table_core.proofs.table.Table.make_owed.Goals as goal

pub returns-in_ok-made_owed-in-Ok : goal.returns-in_ok-made_owed-in-Ok
returns-in_ok-made_owed-in-Ok c = owed_made c.args.post.now c.make_call.new.post c.made_owed.new.post (seen c.args.self.now) (seen c.make_call.new.self)
    (seen c.made_owed.new.self) c.args.at c.args.session c.args.operation c.args.arguments.items c.seat_of.result c.in-Ok.taken c.seat_of.ensures
    c.requires.apart c.requires.known c.requires.owed
    (subst (λ (r : Result Taken SubmitFault). MakesAt c.seat_of.result c.args.operation c.args.arguments.items r c.args.post.now (seen c.args.self.now)
    c.make_call.new.post (seen c.make_call.new.self)) c.in-Ok.is c.in_ok-make_call.ensures) c.in_ok-made_owed-in-Ok.ensures.brings
