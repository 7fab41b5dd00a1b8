use Rattle.std.proofs.Common.{true, false}
use Rattle.session_text.specs.Answers.{said_of}
use Rattle.session_core.proofs.Saying.{adds_seen, held_more, held_still}
use Rattle.session_core.proofs.held.HeldReplies.say.Goals as goal

pub invariant_of-self-then-not-add_line : goal.invariant_of-self-then-not-add_line
invariant_of-self-then-not-add_line c = held_still c.self.inside.text.items c.add_line.new.held.items c.self.inside.notes.items c.add_line.new.notes.items c.self.inside.first c.self.inside.at (said_of c.args.line) c.add_line.result c.self.invariant
    c.if-not-add_line.true c.add_line.ensures

pub invariant_of-self-2 : goal.invariant_of-self-2
invariant_of-self-2 c = held_more c.self.inside.text.items c.add_line.new.held.items c.self.inside.notes.items c.add_line.new.notes.items c.self.inside.first c.self.inside.at c.in-Some.to (said_of c.args.line) c.add_line.result c.self.invariant
    c.in-Some.ensures c.if-not-add_line.false c.add_line.ensures

pub returns-then-not-add_line-clause-added : goal.returns-then-not-add_line-clause-added
returns-then-not-add_line-clause-added c = adds_seen _ c.args.self.now c.add_line.new.held.items c.add_line.new.notes.items (said_of c.args.line) c.add_line.result false c.self.view_is c.if-not-add_line.true c.add_line.ensures

pub returns-clause-added : goal.returns-clause-added
returns-clause-added c = adds_seen _ c.args.self.now c.add_line.new.held.items c.add_line.new.notes.items (said_of c.args.line) c.add_line.result true c.self.view_is c.if-not-add_line.false c.add_line.ensures
