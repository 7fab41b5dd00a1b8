use Rattle.client_core.specs.Views.{custodies_of}
use Rattle.client_core.proofs.Becoming.{undone_is}
use Rattle.client_core.proofs.Placing.{some_at, undone}
use Rattle.client_core.proofs.all.AllHeld.undo.Goals as goal

pub returns-in-Some-clause-is : goal.returns-in-Some-clause-is
returns-in-Some-clause-is c = undone_is c.undo.result c.args.self.now c.args.at c.in-Some.holding.now _ c.args.session c.in-Some.ensures c.undo.ensures

pub returns-in-Some-clause-owed : goal.returns-in-Some-clause-owed
returns-in-Some-clause-owed c = undone c.undo.result (custodies_of c.args.self.now) c.args.at c.in-Some.holding.now _ c.args.session
    (some_at c.args.self.now c.args.at c.in-Some.holding.now c.in-Some.ensures) c.undo.ensures
