use Rattle.decl_core.specs.ObjectMap.{object_of}
use Rattle.decl_core.specs.HoldMap.{holds_of}
use Rattle.recover_core.proofs.HoldPlaying.{plays_more}
use Rattle.recover_core.proofs.past.play_lines.Goals as goal

pub lines-preserved : goal.lines-preserved
lines-preserved c = λ e stands.
    plays_more c.args.ends (object_of c.args.object.now) (holds_of c.args.holds.now) e c.args.base c.args.carried.now c.args.behind.now c.lines.rest.now c.in-Some.line.now c.in-Some.more.now c.args.all.now c.lines.all c.play_line.new.all c.lines.replay c.play_line.new.replay (c.lines.invariant e stands) c.in-Some.ensures.0 c.in-Some.ensures.1
    (λ heard now. c.in_ok-play_line.ensures c.if-not-branch.false e heard now)
