use denote.Param.Send.{sendable}
use Rattle.std.proofs.Crossing.{crosses}
use Rattle.session_core.proofs.Sending.{named_sync, named_field_sync}
use Rattle.session_core.proofs.uncalled.offices_are_shared.Goals as goal

pub is_shared-requires-sync-T : goal.is_shared-requires-sync-T
is_shared-requires-sync-T c κs = search (sendable, crosses, named_sync, named_field_sync) depth 40
