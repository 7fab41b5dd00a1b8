use Rattle.taken_core.proofs.Taking.{takes_none, takes_more, takes_end, takes_endless}
use Rattle.taken_core.proofs.checked.Checked.take_lines.Goals as goal

pub loop-line-init : goal.loop-line-init
loop-line-init c = takes_none c.args.text.now c.args.self.now c.requires.follows c.requires.whole

pub loop-line-preserved : goal.loop-line-preserved
loop-line-preserved c =
    takes_more c.args.text.now c.loop-line.rest.now c.in-Some.line.now c.in-Some.more.now c.loop-line.self c.take_line.new.self c.loop-line.count c.saturating_add-count.result c.in_ok-is_right.is_right
    c.loop-line.invariant c.in-Some.ensures (λ done f same. c.in_ok-is_right.ensures done f same) c.if-not-is_right.false c.saturating_add-count.ensures

pub returns-then-self : goal.returns-then-self
returns-then-self c = takes_end c.args.text.now c.loop-line.rest.now c.loop-line.self c.loop-line.count c.loop-line.invariant c.in_default.ensures c.if-self.true

pub returns : goal.returns
returns c = takes_endless c.args.text.now c.loop-line.rest.now c.loop-line.self c.loop-line.count c.saturating_add-2.result c.loop-line.invariant c.in_default.ensures c.if-self.false c.saturating_add-2.ensures
