use Rattle.table_core.specs.Seen.{seen, state_of}
use Rattle.table_core.proofs.Turning.{goes_by}
use Rattle.client_core.specs.Views.{custodies_of}
use Rattle.table_core.proofs.table.Table.go_on_by.Goals as goal

pub returns-in_ok-heed-in-Some : goal.returns-in_ok-heed-in-Some
returns-in_ok-heed-in-Some c =
    goes_by c.args.post.now c.heed.new.post (seen c.args.self.now) (state_of (custodies_of c.args.self.now.custody) c.args.self.now.objects.items c.take.new.clients) (seen c.heed.new.self)
    c.args.place c.in-Some.ask (c.goes_on.ensures c.if-not-goes_on.false) (c.in-Some.ensures.some (custodies_of c.args.self.now.custody) c.args.self.now.objects.items) c.in_ok-heed-in-Some.ensures
