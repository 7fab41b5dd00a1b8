use Rattle.command_line.proofs.Naming.{one_name, last_name, shorter}
use Rattle.command_line.proofs.belief.names_in.Goals as goal

pub names-preserved : goal.names-preserved
names-preserved c =
    one_name c.args.word.now c.names.left.now c.in-Some.rest.now c.in-Some.name c.names.names.items c.push.new.self.items c.in-Some.ensures.0 c.in-Some.ensures.1 c.in_ok-push.ensures.items c.names.invariant

pub names-smaller : goal.names-smaller
names-smaller c = shorter c.names.left.now c.in-Some.name.now c.in-Some.rest.now c.in-Some.ensures.1

pub returns : goal.returns
returns c =
    last_name c.args.word.now c.names.left c.names.names.items c.push-2.new.self.items c.in_default.ensures c.in_ok-push-2.ensures.items c.names.invariant
