use Rattle.std.proofs.Common.{◌∙◌, inl, refl}
use Rattle.client_core.specs.State.{peers_of}
use Rattle.table_core.specs.Seen.{seen, state_of}
use Rattle.table_core.proofs.Entering.{objects_are}
use Rattle.table_core.proofs.Submitting.{err_sits}
use Rattle.client_core.specs.Views.{custodies_of}
use Rattle.table_core.proofs.table.Table.ready_for.Goals as goal

pub returns-in_err-room-clause-err : goal.returns-in_err-room-clause-err
returns-in_err-room-clause-err c = err_sits c.from_residual.result c.args.asker.place (seen c.args.self.now) c.args.asker.opened c.args.asker.opened (state_of (custodies_of c.args.self.now.custody) c.admit_at.new.objects.items c.args.self.now.clients)
    (inl (refl, objects_are (custodies_of c.args.self.now.custody) c.args.self.now.objects.items c.admit_at.new.objects.items (peers_of c.args.self.now.clients) c.in_err-room.ensures.same))

pub returns-in_err-seat-clause-err : goal.returns-in_err-seat-clause-err
returns-in_err-seat-clause-err c = err_sits c.from_residual-in_err-seat.result c.args.asker.place (seen c.args.self.now) c.args.asker.opened c.args.asker.opened (seen c.seat.new.self)
    (inl (refl, c.in_err-seat.ensures.err ∙ objects_are (custodies_of c.args.self.now.custody) c.args.self.now.objects.items c.admit_at.new.objects.items (peers_of c.args.self.now.clients) c.in_ok-room.ensures.same))
