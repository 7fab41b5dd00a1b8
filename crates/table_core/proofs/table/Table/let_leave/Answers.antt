use Rattle.table_core.proofs.Settling.{free_left, free_noted}
use Rattle.client_core.specs.Views.{custodies_of}
use Rattle.table_core.proofs.table.Table.let_leave.Goals as goal

pub returns : goal.returns
returns c =
    free_noted (custodies_of c.args.self.now.custody) (custodies_of c.note.new.self) c.args.self.now.objects.items c.leave_at.new.objects.items c.args.self.now.clients c.args.at c.args.one.session
    c.note.ensures.held
    (free_left (custodies_of c.note.new.self) c.args.self.now.objects.items c.leave_at.new.objects.items c.args.self.now.clients c.args.at c.args.one.session c.args.self.now.second
    (c.may_free.ensures.apart c.if-not-may_free.false) (c.may_free.ensures.none c.if-not-may_free.false)
    (c.may_free.ensures.idle c.if-not-may_free.false) c.leave_at.ensures)
