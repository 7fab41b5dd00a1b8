use Rattle.keep_core.proofs.Telling.{write_told}
use Rattle.keep_core.proofs.close.tell.Goals as goal

pub returns-in-Ok : goal.returns-in-Ok
returns-in-Ok g c = rw c.in-Ok.is (write_told c.write_whole.result c.write_whole.ensures.ok c.write_whole.ensures.err c.write_whole.ensures.fault)
