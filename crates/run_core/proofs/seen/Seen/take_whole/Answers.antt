use Rattle.run_core.proofs.Taking.{takes_whole}
use Rattle.run_core.proofs.seen.Seen.take_whole.Goals as goal

pub returns-in-Ok-clause-found : goal.returns-in-Ok-clause-found
returns-in-Ok-clause-found c = λ a call pins holds so. takes_whole a call c.args.part c.args.self.now.known c.args.self.now.read.items c.put.new.read.items c.args.got.items c.requires.low c.requires.place c.in-Ok.ensures pins holds so
