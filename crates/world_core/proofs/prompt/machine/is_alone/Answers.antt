use Rattle.world_core.proofs.Alone.{alone_is, not_alone}
use Rattle.world_core.proofs.prompt.machine.is_alone.Goals as goal

pub returns-in-Some : goal.returns-in-Some
returns-in-Some c = alone_is c.args.line.now c.in-Some.found.now c.args.word.now c.is_same_word.result c.in-Some.ensures c.is_same_word.ensures

pub returns-in-None : goal.returns-in-None
returns-in-None c = not_alone c.args.line.now c.args.word.now c.in-None.ensures
