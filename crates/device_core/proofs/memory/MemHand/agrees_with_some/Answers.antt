use Rattle.device_core.proofs.Agreeing.{some_map}
use Rattle.device_core.proofs.memory.MemHand.agrees_with_some.Goals as goal

pub returns : goal.returns
returns c = some_map c.args.self.now.files.items
