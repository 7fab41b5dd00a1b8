use Rattle.std.proofs.Common.{Some}
use Rattle.guest_core.specs.declared.answer.SubmitFault.TheVariants as faults
use Rattle.session_text.specs.declared.line.ReplyLine.TheVariants as lines
use Rattle.table_core.specs.Seen.{seen}
use Rattle.table_core.proofs.Bringing.{refuses}
use Rattle.table_core.proofs.Entering.{enter_refused, opens_refused}
use Rattle.table_core.proofs.table.Table.enter_as.Goals as goal

pub returns-then-not-may_come : goal.returns-then-not-may_come
returns-then-not-may_come c = opens_refused c.args.post.now c.reject.new.post (seen c.args.self.now) (seen c.reject.new.self) c.args.place c.args.name.now (Some c.args.client)
    (refuses c.args.post.now c.reject.new.post (seen c.args.self.now) (seen c.reject.new.self) c.args.place (lines.Unsubmitted faults.HistoryFull) tt c.in_ok-reject.ensures)

pub returns-then-is_err : goal.returns-then-is_err
returns-then-is_err c = enter_refused c.args.post.now c.make_room.new.post c.reject-then-is_err.new.post (seen c.args.self.now) (seen c.make_room.new.self) (seen c.reject-then-is_err.new.self) c.args.place
    c.args.name.now c.args.client (lines.Unsubmitted faults.Memory) tt (record { tells = c.make_room.ensures.tells; left = c.make_room.ensures.same }) c.in_ok-reject-2.ensures
