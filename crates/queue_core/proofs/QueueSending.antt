-- Open calls may be handed to another thread and shared between threads.
use denote.Param.Send.{IsSend, IsSync, sendable}
use Rattle.std.proofs.Crossing.{crosses}
use Rattle.page_core.proofs.CallSending.{operation_send, operation_sync, call_send, call_sync}
use Rattle.queue_core.specs.contracts.open_call.Waiting as waiting
use Rattle.queue_core.specs.contracts.open_call.Running as running
use Rattle.queue_core.specs.contracts.queue.WaitingQueue as queue

ruleset calls = (sendable, crosses, operation_send, operation_sync, call_send, call_sync)

waiting_send : IsSend waiting.the_row
waiting_send = search calls depth 40 fits 20000

waiting_sync : IsSync waiting.the_row
waiting_sync = search calls depth 40 fits 20000

pub queue_send : IsSend queue.the_row
queue_send = search (sendable, crosses, waiting_send) depth 40 fits 20000

pub queue_sync : IsSync queue.the_row
queue_sync = search (sendable, crosses, waiting_sync) depth 40 fits 20000

pub running_send : IsSend running.the_row
running_send = search calls depth 40 fits 20000

pub running_sync : IsSync running.the_row
running_sync = search calls depth 40 fits 20000
