use Rattle.std.proofs.Common.{subst}
use Rattle.decl_core.specs.ObjectMap.{object_of}
use Rattle.decl_core.specs.HoldMap.{holds_of}
use Rattle.recover_core.specs.HeldSo.{TakesHeld}
use Rattle.recover_core.proofs.Texts.{line_none, line_taken, no_line}
use Rattle.recover_core.proofs.text.take_line.Goals as goal

pub returns-in-None : goal.returns-in-None
returns-in-None c = no_line (object_of c.args.object.now) (holds_of c.args.holds.now) c.args.text.now c.in-None.ensures

pub returns-else-taken : goal.returns-else-taken
returns-else-taken c =
    let o = object_of c.args.object.now in
    let holds = holds_of c.args.holds.now in
    line_none o holds c.args.text.now c.in-Some.line.now c.in-Some.more.now c.args.all.now c.take_held.new.all c.object_has_names.ensures c.in-Some.ensures.0 c.in-Some.ensures.1
    (subst (λ b. TakesHeld o holds c.in-Some.line.now c.args.all.now b c.take_held.new.all) c.if-taken.false c.in_ok-taken-in-Some.ensures)

pub returns-then-taken : goal.returns-then-taken
returns-then-taken c =
    let o = object_of c.args.object.now in
    let holds = holds_of c.args.holds.now in
    line_taken o holds c.args.text.now c.in-Some.line.now c.in-Some.more.now c.args.all.now c.take_held.new.all c.in-Some.ensures.1
    (subst (λ b. TakesHeld o holds c.in-Some.line.now c.args.all.now b c.take_held.new.all) c.if-taken.true c.in_ok-taken-in-Some.ensures)
