use Rattle.decl_core.specs.ObjectMap.{object_of}
use Rattle.decl_core.specs.HoldMap.{holds_of}
use Rattle.recover_core.proofs.Texts.{one_more}
use Rattle.recover_core.proofs.text.take_lines.Goals as goal

pub lines-preserved : goal.lines-preserved
lines-preserved c =
    one_more (object_of c.args.object.now) (holds_of c.args.holds.now) c.args.text.now c.lines.rest.now c.in-Some.behind.now c.lines.all c.take_line.new.all c.lines.invariant (rw c.in-Some.is at c.in_ok-behind.ensures)
