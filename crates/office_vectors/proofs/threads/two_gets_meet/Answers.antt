use denote.Param.Send.{sendable}
use Rattle.std.proofs.Crossing.{crosses}
use Rattle.office_core.proofs.Sending.{office_sync}
use Rattle.office_vectors.proofs.threads.two_gets_meet.Goals as goal

-- a closure over the office may run in another thread
pub join-first-requires-send-F : goal.join-first-requires-send-F
join-first-requires-send-F g c κs within = search (sendable, crosses, office_sync) depth 40 fits 20000
