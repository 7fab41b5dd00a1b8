use Rattle.table_core.proofs.Settling.{leaves_held}
use Rattle.client_core.specs.Views.{custodies_of}
use Rattle.table_core.proofs.table.Table.leave_by.Goals as goal

pub returns : goal.returns
returns c = leaves_held (custodies_of c.args.self.now.custody) (custodies_of c.leaves.new.self) c.args.self.now.objects.items c.leave_at.new.objects.items c.args.self.now.clients c.args.place
    c.args.self.now.second c.args.opened c.requires c.in_ok-stays.ensures.same (c.in_ok-stays.ensures.free c.if-stays.false) c.leave_at.ensures
