use denote.Param.Send.{sendable}
use Rattle.serve_core.proofs.Sending.{result_send, results_sync}
use Rattle.serve_core.proofs.listen.serve_all.Goals as goal

pub put_each-requires-sync-B : goal.put_each-requires-sync-B
put_each-requires-sync-B g c κs = search (sendable, results_sync, result_send) depth 40 fits 20000
