use Rattle.std.proofs.Common.{◌∙◌, sym}
use Rattle.client_core.proofs.Becoming.{found_first, goes_on, none_found}
use Rattle.client_core.proofs.all.AllHeld.first_due.Goals as goal

pub loop-at-preserved : goal.loop-at-preserved
loop-at-preserved c = goes_on c.due_of-due.result c.args.second c.self.inside.rows.items c.args.self.now c.loop-at.at c.len-at-end.result c.index.result.now
    c.self.view_is (c.len-at-end.ensures ∙ c.self.inside.rows.ok.0) c.loop-at-test.true c.index.ensures (sym c.is_some.ensures ∙ c.if-is_some.false) c.due_of-due.ensures c.loop-at.invariant

pub returns : goal.returns
returns c = none_found c.args.second c.self.inside.rows.items c.args.self.now c.loop-at.at c.len-at-end.result
    c.self.view_is (c.len-at-end.ensures ∙ c.self.inside.rows.ok.0) c.loop-at-test.false c.loop-at.invariant

pub returns-then-is_some : goal.returns-then-is_some
returns-then-is_some c = found_first c.due_of-due.result c.args.second c.self.inside.rows.items c.args.self.now c.loop-at.at c.len-at-end.result c.index.result.now
    c.self.view_is (c.len-at-end.ensures ∙ c.self.inside.rows.ok.0) c.loop-at-test.true c.index.ensures (sym c.is_some.ensures ∙ c.if-is_some.true) c.due_of-due.ensures c.loop-at.invariant
