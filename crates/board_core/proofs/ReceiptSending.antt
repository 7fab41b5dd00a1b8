-- Receipts may be handed to another thread and shared between threads.
use denote.Param.Send.{IsSend, IsSync, sendable}
use Rattle.std.proofs.Crossing.{crosses}
use Rattle.page_core.proofs.CallSending.{operation_send, operation_sync}
use Rattle.board_core.specs.contracts.receipt.Receipt as receipt

ruleset over_operations = (sendable, crosses, operation_send, operation_sync)

pub receipt_send : IsSend receipt.the_row
receipt_send = search over_operations depth 40 fits 20000

pub receipt_sync : IsSync receipt.the_row
receipt_sync = search over_operations depth 40 fits 20000
