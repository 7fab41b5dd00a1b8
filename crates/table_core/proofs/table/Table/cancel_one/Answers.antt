use Rattle.guest_core.specs.declared.answer.SubmitFault.TheVariants as faults
use Rattle.session_text.specs.declared.line.ReplyLine.TheVariants as lines
use Rattle.table_core.specs.Seen.{seen}
use Rattle.table_core.proofs.Cancelling.{one_refused, one_behind}
use Rattle.table_core.proofs.table.Table.cancel_one.Goals as goal

pub returns-then-is_err : goal.returns-then-is_err
returns-then-is_err c = one_refused c.args.post.now c.make_room.new.post c.reject.new.post (seen c.args.self.now) (seen c.make_room.new.self) (seen c.reject.new.self) c.args.place c.args.at c.args.session
    c.args.told (lines.Unsubmitted faults.Memory) tt c.make_room.ensures.tells c.make_room.ensures.same c.in_ok-reject.ensures

pub returns : goal.returns
returns c = one_behind c.args.post.now c.make_room.new.post c.cancel_now.new.post (seen c.args.self.now) (seen c.make_room.new.self) (seen c.cancel_now.new.self) c.args.place c.args.at c.args.session
    c.args.told c.make_room.ensures.tells c.make_room.ensures.same c.in_ok-cancel_now.ensures
