use Rattle.std.proofs.Common.{subst, Result}
use Rattle.guest_core.specs.declared.answer.SubmitFault.{SubmitFault}
use Rattle.live_core.specs.declared.live.Taken.{Taken}
use Rattle.session_text.specs.declared.line.ReplyLine.TheVariants as lines
use Rattle.table_core.specs.Parts.{MakesAt}
use Rattle.table_core.specs.Seen.{seen}
use Rattle.table_core.proofs.Submitting.{submit_refused, submit_taken}
use Rattle.table_core.proofs.table.Table.submit.Goals as goal

pub returns-in_ok-reject-in-Err : goal.returns-in_ok-reject-in-Err
returns-in_ok-reject-in-Err c = submit_refused c.args.post.now c.make_call.new.post c.reject.new.post (seen c.args.self.now) (seen c.make_call.new.self) (seen c.reject.new.self) c.args.place c.args.ready.seat
    c.args.ready.operation c.args.arguments.items (lines.Unsubmitted c.in-Err.fault) tt (subst (λ (r : Result Taken SubmitFault). MakesAt c.args.ready.seat c.args.ready.operation c.args.arguments.items r c.args.post.now (seen c.args.self.now) c.make_call.new.post (seen c.make_call.new.self)) c.in-Err.is c.in_ok-fault.ensures) c.in_ok-reject-in-Err.ensures

pub returns-in_ok-taken_all-in-Ok : goal.returns-in_ok-taken_all-in-Ok
returns-in_ok-taken_all-in-Ok c = submit_taken c.args.post.now c.make_call.new.post c.taken_all.new.post (seen c.args.self.now) (seen c.make_call.new.self) (seen c.taken_all.new.self) c.args.place c.args.ready.seat
    c.args.ready.operation c.args.arguments.items c.in-Ok.taken (subst (λ (r : Result Taken SubmitFault). MakesAt c.args.ready.seat c.args.ready.operation c.args.arguments.items r c.args.post.now (seen c.args.self.now) c.make_call.new.post (seen c.make_call.new.self)) c.in-Ok.is c.in_ok-fault.ensures) c.in_ok-taken_all-in-Ok.ensures.brings
