-- Offices under names may be shared between threads.
use denote.Param.Send.{IsSync, sendable}
use Rattle.path_tree.proofs.name.Name.TheSendSync as name
use Rattle.office_core.proofs.Sending.{office_field_sync}
use Rattle.session_core.specs.contracts.order.Named as named

pub named_sync : IsSync named.the_row
named_sync = search (sendable, office_field_sync, name.the_sync) depth 40

pub named_field_sync : IsSync (named.the_field).row
named_field_sync = search (sendable, office_field_sync, name.the_sync) depth 40
