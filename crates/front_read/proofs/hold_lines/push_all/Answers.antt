use Rattle.std.proofs.Common.{◌<◌, length, arith}
use Rattle.std.specs.Prelude.{codes}
use Rattle.decl_core.specs.ObjectMap.{object_of}
use Rattle.decl_core.specs.HoldMap.{holds_of}
use Rattle.front_read.specs.HeldLines.{held_words}
use Rattle.front_read.proofs.Adding.{rows_more}
use Rattle.front_read.proofs.hold_lines.push_all.Goals as goal

pub loop-held-preserved : goal.loop-held-preserved
loop-held-preserved c =
    let inside : c.loop-held.held-index < length c.args.all.now = omega arith in
    rows_more (codes "held") (held_words (object_of c.args.object.now) (holds_of c.args.holds.now)) c.args.out.now.items c.loop-held.out.items c.push_held_call.new.out.items c.args.all.now c.loop-held.held-index c.held-item.result c.held-item.result inside c.held-item.is c.loop-held.invariant c.in_ok-push_held_call.ensures
