use denote.Param.Send.{sendable}
use Rattle.std.proofs.Crossing.{crosses}
use Rattle.session_core.proofs.Sending.{named_sync, named_field_sync}
use Rattle.session_vectors.proofs.make.serve.Goals as goal

pub serve_session-requires-sync-O : goal.serve_session-requires-sync-O
serve_session-requires-sync-O g c κs within = search (sendable, crosses, named_sync, named_field_sync) depth 40
