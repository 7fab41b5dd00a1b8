use Rattle.std.specs.Arc.{arc_value}
use Rattle.decl_core.specs.Bodies.{body_of}
use Rattle.page_core.proofs.Inside.{surely_written, done_has}
use Rattle.page_core.proofs.outcome.Outcome.new_pins.Goals as goal

pub returns-in-Done-clause-inside : goal.returns-in-Done-clause-inside
returns-in-Done-clause-inside c = λ p has.
    surely_written (body_of (arc_value c.args.self.now.operation)).statements p (c.args.self.now.inside p (done_has c.args.self.now.reply c.args.self.now.news p has))
