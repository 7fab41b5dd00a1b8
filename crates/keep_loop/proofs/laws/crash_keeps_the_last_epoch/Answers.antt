use Rattle.keep_loop.specs.Epochs.{rules_of}
use Rattle.keep_loop.proofs.Crashed.{survives_since}
use Rattle.keep_loop.proofs.laws.crash_keeps_the_last_epoch.Goals as goal

pub returns : goal.returns
returns g c first limits seen found waits h between = survives_since (rules_of g.O.Served.gives g.O.Served.fronts) first limits seen found waits h between
