use Rattle.std.proofs.Common.{Ok, Err}
use Rattle.keep_core.proofs.Telling.{write_told}
use Rattle.serve_core.proofs.serve.tell_refused.Goals as goal

pub returns-in-Ok-clause-by : goal.returns-in-Ok-clause-by
returns-in-Ok-clause-by g c = record { ends = tt; said = (write_told {line = c.args.line.now} (Ok tt) c.in-Ok.ensures.ok tt tt).said }

pub returns-in-Err-clause-by : goal.returns-in-Err-clause-by
returns-in-Err-clause-by g c = record { ends = tt; said = (write_told {line = c.args.line.now} (Err c.in-Err.fault) tt c.in-Err.ensures.err c.in-Err.ensures.fault).said }
