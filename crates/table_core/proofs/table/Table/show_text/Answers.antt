use Rattle.guest_core.specs.declared.answer.SubmitFault.TheVariants as faults
use Rattle.session_text.specs.declared.line.ReplyLine.TheVariants as lines
use Rattle.table_core.specs.Parts.{ShowsText}
use Rattle.table_core.specs.Seen.{seen}
use Rattle.table_core.proofs.Bringing.{brings_behind, brings_only}
use Rattle.table_core.proofs.Showing.{show_refused, show_told}
use Rattle.table_core.proofs.table.Table.show_text.Goals as goal

pub returns-then-is_err : goal.returns-then-is_err
returns-then-is_err c = brings_behind (ShowsText c.args.place c.args.text.now) c.args.post.now c.make_room.new.post c.reject.new.post (seen c.args.self.now) (seen c.make_room.new.self)
    (seen c.reject.new.self) c.make_room.ensures.tells c.make_room.ensures.same
    (show_refused c.make_room.new.post c.reject.new.post (seen c.make_room.new.self) (seen c.reject.new.self) c.args.place c.args.text.now (lines.Unsubmitted faults.Memory) tt
    c.in_ok-reject.ensures)

pub returns : goal.returns
returns c = brings_behind (ShowsText c.args.place c.args.text.now) c.args.post.now c.make_room.new.post c.tell.new.post (seen c.args.self.now) (seen c.make_room.new.self)
    (seen c.make_room.new.self) c.make_room.ensures.tells c.make_room.ensures.same
    (show_told c.make_room.new.post c.tell.new.post (seen c.make_room.new.self) (seen c.make_room.new.self) c.args.place c.args.text.now
    (brings_only c.make_room.new.post c.tell.new.post (seen c.make_room.new.self) c.args.place c.args.text.now c.in_ok-tell.ensures))
