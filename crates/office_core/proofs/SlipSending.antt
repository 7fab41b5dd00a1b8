-- What threads may hand over and share: slips.
use denote.Param.Send.{IsSend, sendable}
use Rattle.std.proofs.Crossing.{crosses}
use Rattle.page_core.proofs.CallSending.{operation_send, operation_sync}
use Rattle.office_core.specs.contracts.slip.Slip as slip

pub slip_send : IsSend slip.the_row
slip_send = search (sendable, crosses, operation_send, operation_sync) depth 40 fits 20000
