use Rattle.std.proofs.Common.{arith}
use Rattle.table_core.proofs.Submitting.{gets_number}
use Rattle.client_core.specs.Views.{custodies_of}
use Rattle.table_core.proofs.table.Table.seat.Goals as goal

pub returns-clause-ok : goal.returns-clause-ok
returns-clause-ok c = gets_number (custodies_of c.args.self.now.custody) c.args.self.now.objects.items c.seat_at.new.objects.items c.args.self.now.clients c.open.new.clients c.args.asker.place c.in_ok-session.session
    c.args.asker.opened (let z = c.if-asker-ne0.false in omega (arith, z)) c.in_ok-session.ensures.ok c.open.ensures
