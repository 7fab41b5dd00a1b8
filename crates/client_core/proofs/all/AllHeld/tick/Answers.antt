use Rattle.client_core.proofs.Becoming.{tick_there}
use Rattle.client_core.proofs.all.AllHeld.tick.Goals as goal

pub returns-in-Some-clause-every : goal.returns-in-Some-clause-every
returns-in-Some-clause-every c = tick_there c.tick.result c.args.self.now c.args.at c.args.place c.in-Some.holding.now c.in-Some.ensures c.tick.ensures.every
