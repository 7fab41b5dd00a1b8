use Rattle.keep_log.specs.Events.{lets_go}
use Rattle.keep_log.proofs.Telling.{told_line}
use Rattle.keep_log.proofs.log.Log.let_go.Goals as goal

pub returns : goal.returns
returns g c = told_line c.args.self.now.form c.in-Some.form c.moment_at-moment.result (λ form moment. lets_go form moment c.args.connection c.args.why) c.push_let_go-made.result
    c.clear.new.self.items c.push_let_go-made.new.out.items (g.E.Write.contents c.args.self.now.errors) (g.E.Write.contents c.tell.new.self.errors)
    c.in-Some.is c.clear.ensures.items c.push_let_go-made.ensures c.tell.ensures.made c.tell.ensures.none
