use denote.Param.Send.{sendable}
use Rattle.std.proofs.Crossing.{crosses}
use Rattle.session_core.proofs.Sending.{named_sync, named_field_sync}
use Rattle.session_vectors.proofs.deaf.what_was_read_before_the_bell_is_sent_ahead.Goals as goal

pub serve_session-end-requires-sync-O : goal.serve_session-end-requires-sync-O
serve_session-end-requires-sync-O g c κs = search (sendable, crosses, named_sync, named_field_sync) depth 40
