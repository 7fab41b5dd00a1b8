use Rattle.table_core.proofs.Settling.{seat_given}
use Rattle.client_core.specs.Views.{custodies_of}
use Rattle.table_core.proofs.table.Table.tick_seat.Goals as goal

pub returns : goal.returns
returns c = seat_given (custodies_of c.args.self.now.custody) (custodies_of c.note.new.self) c.args.self.now.objects.items c.seat_free.new.objects.items c.args.self.now.clients c.args.at
    c.in_ok-session.session c.requires c.in_ok-session.ensures.some c.note.ensures.held
