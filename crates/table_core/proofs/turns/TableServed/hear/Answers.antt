use Rattle.table_core.proofs.Turning.{heard}
use Rattle.table_core.proofs.turns.TableServed.hear.Goals as goal

pub returns : goal.returns
returns c = heard c.args.self.now c.hear_of.new.self c.args.post.now c.hear_of.new.post c.args.who c.args.line.now c.args.end c.in_ok-hear_of.ensures
