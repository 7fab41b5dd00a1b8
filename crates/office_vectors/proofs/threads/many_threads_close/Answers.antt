use denote.Param.Send.{sendable}
use Rattle.std.proofs.Crossing.{crosses}
use Rattle.board_core.proofs.ReceiptSending.{receipt_send}
use Rattle.office_core.proofs.Sending.{office_sync}
use Rattle.office_vectors.proofs.threads.many_threads_close.Goals as goal

-- what a thread has at its end comes back
pub map_indices-all-requires-send-X : goal.map_indices-all-requires-send-X
map_indices-all-requires-send-X g c κs within = search (sendable, crosses, receipt_send) depth 40 fits 20000

-- a closure over the office may run in other threads
pub map_indices-all-requires-sync-F : goal.map_indices-all-requires-sync-F
map_indices-all-requires-sync-F g c κs within = search (sendable, crosses, office_sync) depth 40 fits 20000
