-- A desk may be handed to another thread and shared between threads.
use denote.Param.Send.{IsSend, IsSync, sendable}
use Rattle.std.proofs.Crossing.{crosses}
use Rattle.page_core.proofs.CallSending.{accepted_send, accepted_sync, call_send, call_sync, entry_send, entry_sync}
use Rattle.board_core.proofs.KeySending.{index_send, index_sync}
use Rattle.queue_core.proofs.QueueSending.{queue_send, queue_sync, running_send, running_sync}
use Rattle.desk_core.specs.contracts.desk.Desk as desk

pub desk_send : IsSend desk.the_row
desk_send = search (sendable, crosses, accepted_send, call_send, call_sync, entry_send, index_send, queue_send, running_send) depth 40 fits 20000

pub desk_sync : IsSync desk.the_row
desk_sync = search (sendable, crosses, accepted_sync, call_send, call_sync, entry_sync, index_sync, queue_sync, running_sync) depth 40 fits 20000
