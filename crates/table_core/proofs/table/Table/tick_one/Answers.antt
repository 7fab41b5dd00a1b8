use Rattle.table_core.specs.Seen.{seen, state_of}
use Rattle.table_core.proofs.Settling.{held_same, settles_more, settles_same, settles_seat}
use Rattle.client_core.specs.Views.{custodies_of}
use Rattle.table_core.proofs.table.Table.tick_one.Goals as goal

pub returns-in_default-tick_seat : goal.returns-in_default-tick_seat
returns-in_default-tick_seat c = settles_same c.args.post.now c.args.post.now (seen c.args.self.now) (seen c.tick_seat.new.self)
    (state_of (custodies_of c.note.new.self) c.tick_seat.new.self.objects.items c.tick_seat.new.self.clients)
    (settles_seat c.args.post.now (seen c.args.self.now) (seen c.tick_seat.new.self) c.args.at c.tick_seat.ensures)
    (held_same (custodies_of c.tick_seat.new.self.custody) (custodies_of c.note.new.self) c.tick_seat.new.self.objects.items c.tick_seat.new.self.clients c.note.ensures.held)

pub returns : goal.returns
returns c = settles_more c.args.post.now c.args.post.now c.tick_by.new.post (seen c.args.self.now) (seen c.tick_seat.new.self) (seen c.tick_by.new.self)
    (settles_seat c.args.post.now (seen c.args.self.now) (seen c.tick_seat.new.self) c.args.at c.tick_seat.ensures) c.in_ok-tick_by.ensures
