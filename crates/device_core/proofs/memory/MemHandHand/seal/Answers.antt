use Rattle.device_core.proofs.Agreeing.{some_map}
use Rattle.device_core.proofs.Becoming.{sealed_serves}
use Rattle.device_core.proofs.memory.MemHandHand.seal.Goals as goal

pub returns-in-Some-clause-served : goal.returns-in-Some-clause-served
returns-in-Some-clause-served c =
    let was = c.in-Some.ensures.was_open in
    let some = some_map c.seal.new.files.items in
    sealed_serves c.args.self.now.files.items c.seal.new.files.items c.args.pen.number c.in-Some.len was.0 (c.in-Some.ensures.seals was.0 was.1) ((c.in-Some.ensures.agrees was.0 was.1 some.0).0 some.1).2
