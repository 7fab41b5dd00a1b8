use Rattle.table_core.specs.Seen.{seen}
use Rattle.table_core.proofs.Turning.{line_put_off, line_off_refused}
use Rattle.client_core.specs.Views.{custodies_of}
use Rattle.table_core.proofs.table.Table.put_off.Goals as goal

pub returns-in-Ok : goal.returns-in-Ok
returns-in-Ok c = line_put_off (custodies_of c.args.self.now.custody) c.args.post.now c.args.self.now.objects.items c.args.self.now.clients c.hold.new.clients c.args.place c.args.line.now c.args.is_whole
    c.requires.asks.0 c.requires.asks.1 c.in-Ok.ensures.ok

pub returns-in_ok-reject-in-Err : goal.returns-in_ok-reject-in-Err
returns-in_ok-reject-in-Err c = line_off_refused (custodies_of c.args.self.now.custody) c.args.post.now c.reject.new.post c.args.self.now.objects.items c.args.self.now.clients c.hold.new.clients (seen c.reject.new.self) c.args.place
    c.args.line.now c.args.is_whole c.requires.asks.0 c.requires.idle c.requires.asks.1 c.in-Err.ensures.err c.in_ok-reject-in-Err.ensures
