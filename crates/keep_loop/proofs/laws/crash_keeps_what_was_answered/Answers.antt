use Rattle.keep_loop.specs.Epochs.{rules_of}
use Rattle.keep_loop.proofs.Crashed.{survives}
use Rattle.keep_loop.proofs.laws.crash_keeps_what_was_answered.Goals as goal

pub returns : goal.returns
returns g c first limits seen found waits h between = survives (rules_of g.O.Served.gives g.O.Served.fronts) first limits seen found waits h between
