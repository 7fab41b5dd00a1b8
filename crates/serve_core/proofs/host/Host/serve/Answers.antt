use denote.Param.Send.{sendable}
use Rattle.std.proofs.Crossing.{crosses}
use Rattle.session_core.proofs.Sending.{named_sync}
use Rattle.serve_core.proofs.Sending.{gate_sync}
use Rattle.serve_core.proofs.host.Host.serve.Goals as goal

pub serve_all-requires-sync-O : goal.serve_all-requires-sync-O
serve_all-requires-sync-O g c κs = search (sendable, crosses, named_sync) depth 40

pub serve_all-requires-sync-D : goal.serve_all-requires-sync-D
serve_all-requires-sync-D g c κs = search (sendable, gate_sync) depth 40
