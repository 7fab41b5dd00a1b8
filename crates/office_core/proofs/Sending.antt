-- An inside may be handed to another thread, and an office shared between threads.
use denote.Param.Send.{IsSend, IsSync, sendable}
use Rattle.std.proofs.Crossing.{crosses}
use Rattle.page_core.proofs.CallSending.{operation_send, operation_sync}
use Rattle.desk_core.proofs.Sending.{desk_send, desk_sync}
use Rattle.office_core.specs.contracts.seat.Submitted as submitted
use Rattle.office_core.specs.contracts.inside.Inside as inside
use Rattle.office_core.specs.contracts.office.Office as office

pub submitted_send : IsSend submitted.the_row
submitted_send = search (sendable, crosses, operation_send, operation_sync) depth 40 fits 20000

pub inside_send : IsSend inside.the_row
inside_send = search (sendable, crosses, desk_send) depth 40 fits 20000

pub inside_sync : IsSync inside.the_row
inside_sync = search (sendable, crosses, desk_sync) depth 40 fits 20000

pub office_send : IsSend office.the_row
office_send = search (sendable, crosses, inside_send) depth 40 fits 20000

pub office_sync : IsSync office.the_row
office_sync = search (sendable, crosses, inside_send) depth 40 fits 20000

-- an office as a field of a struct
pub office_field_send : IsSend (office.the_field).row
office_field_send = search (sendable, crosses, inside_send) depth 40 fits 20000

pub office_field_sync : IsSync (office.the_field).row
office_field_sync = search (sendable, crosses, inside_send) depth 40 fits 20000
