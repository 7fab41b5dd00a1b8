use Rattle.serve_core.proofs.Gathering.{gathered_ok, gathered_err}
use Rattle.serve_core.proofs.host.gather_came.Goals as goal

pub returns-in-Ok : goal.returns-in-Ok
returns-in-Ok g c = gathered_ok c.args.trouble.now c.gather.new.trouble _ _ _ c.in-Ok.all.items c.into_all.ensures c.gather.ensures

pub returns-in-Err : goal.returns-in-Err
returns-in-Err g c = gathered_err _ c.args.trouble.now c.note.new.self _ _ c.into_all-in-Err.ensures c.note.ensures.fault c.note.ensures.refused
