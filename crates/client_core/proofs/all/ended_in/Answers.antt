use Rattle.std.proofs.Common.{◌≡◌}
use Rattle.client_core.specs.Holding.{Holding}
use Rattle.client_core.specs.Due.{EndsAll}
use Rattle.client_core.proofs.Placing.{at_place, followed}
use Rattle.client_core.proofs.Becoming.{becomes}
use Rattle.client_core.proofs.all.ended_in.Goals as goal

pub returns-in_ok-all_ended-in-Some-clause-ends : goal.returns-in_ok-all_ended-in-Some-clause-ends
returns-in_ok-all_ended-in-Some-clause-ends c = becomes (EndsAll c.args.object.now c.args.second c.args.all.now) c.args.rows.now.items c.args.at c.in-Some.holding.now
    c.all_ended.new.holding (at_place c.args.rows.now.items c.args.at c.in-Some.holding.now c.in-Some.ensures.item.3.0 c.in-Some.ensures.value)
    c.in_ok-all_ended-in-Some.ensures.ends

pub returns-in_ok-all_ended-in-Some-clause-held : goal.returns-in_ok-all_ended-in-Some-clause-held
returns-in_ok-all_ended-in-Some-clause-held c = followed c.args.rows.now.items c.args.at c.in-Some.holding.now c.all_ended.new.holding c.args.object.now c.args.all.now
    (at_place c.args.rows.now.items c.args.at c.in-Some.holding.now c.in-Some.ensures.item.3.0 c.in-Some.ensures.value)
    c.in_ok-all_ended-in-Some.ensures.rules c.in_ok-all_ended-in-Some.ensures.held
