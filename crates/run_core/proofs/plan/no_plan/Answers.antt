use Rattle.std.proofs.Common.{refl}
use Rattle.run_core.proofs.Renewals.{none_planned}
use Rattle.run_core.proofs.plan.no_plan.Goals as goal

pub returns-clause-planned : goal.returns-clause-planned
returns-clause-planned c = none_planned c.args.pins.now c.args.read.now _ c.new.result.items c.new-2.result.items c.new-3.result.items refl c.new.ensures.items c.new-2.ensures.items c.new-3.ensures.items
