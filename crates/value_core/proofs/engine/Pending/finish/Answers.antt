use Rattle.std.proofs.Common.{◌<◌, length, arith}
use Rattle.std.proofs.lemmas.Grind.{common_steps}
use Rattle.value_core.proofs.Reading.{Finished-last}
use Rattle.value_core.proofs.engine.Pending.finish.Goals as goal

pub returns-clause-finished : goal.returns-clause-finished
returns-clause-finished g c =
    let answer = c.in_ok-goes.ensures in
    let some : 0 < length c.args.self.now.held.items = grind (arith, common_steps) in
    (answer.0, answer.1, Finished-last g.M.Machine.gives c.args.machine.now c.args.self.now.number c.args.self.now.held.items c.in_ok-goes.goes answer.0 c.answer.new.self c.requires some (rw c.as_slice.ensures.value at answer.2))
