use Rattle.client_core.proofs.Becoming.{none_if}
use Rattle.client_core.proofs.all.AllHeld.holds_none.Goals as goal

pub returns-in-Some-clause-yes : goal.returns-in-Some-clause-yes
returns-in-Some-clause-yes c = λ so. none_if c.holds_some.result c.args.self.now c.args.at c.args.session c.in-Some.holding.now c.in-Some.ensures
    c.holds_some.ensures.no so
