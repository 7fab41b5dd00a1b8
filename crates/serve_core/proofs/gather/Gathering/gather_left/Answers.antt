use Rattle.serve_core.proofs.Gathering.{gathers_session}
use Rattle.serve_core.proofs.gather.Gathering.gather_left.Goals as goal

pub returns : goal.returns
returns g c =
    gathers_session c.args.left c.in-Some.at c.args.trouble.now c.heed-mixed.new.trouble c.heed_memory.new.self _ _ c.put.result c.in-Some.is c.heed-mixed.ensures.fault c.heed-mixed.ensures.refused
    c.heed_memory.ensures.fault c.heed_memory.ensures.refused c.put.ensures.ok c.put.ensures.err
