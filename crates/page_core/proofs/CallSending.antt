-- What threads may hand over and share: operations, objects, accepted objects, tickets, outcomes, calls and entries.
use denote.Param.Send.{IsSend, IsSync, sendable}
use Rattle.std.proofs.Crossing.{crosses}
use Rattle.path_tree.proofs.node.Members.TheLaws.TheKnot as members
use Rattle.decl_core.proofs.expr.IntegerExpr.TheLaws.TheKnot as expression
use Rattle.decl_core.proofs.stmt.Cond.TheLaws.TheKnot as condition
use Rattle.decl_core.proofs.stmt.Stmt.TheLaws.TheKnot as statement
use Rattle.decl_core.specs.contracts.object.Operation as operation
use Rattle.decl_core.specs.contracts.object.Object as object
use Rattle.decl_core.specs.contracts.analyse.Accepted as accepted
use Rattle.page_core.specs.contracts.ticket.Ticket as ticket
use Rattle.page_core.specs.contracts.outcome.Outcome as outcome
use Rattle.page_core.specs.contracts.call.Call as call
use Rattle.page_core.specs.contracts.entry.Entry as entry

-- the trees of operations and of paths
ruleset trees = (sendable, crosses, expression.crosses, condition.crosses, statement.crosses, members.crosses)

pub operation_send : IsSend operation.the_row
operation_send = search trees depth 40 fits 20000

pub operation_sync : IsSync operation.the_row
operation_sync = search trees depth 40 fits 20000

-- what has operations, and no other trees
ruleset over_operations = (sendable, crosses, operation_send, operation_sync)

-- an object as a field of a struct
object_field_send : IsSend (object.the_field).row
object_field_send = search (over_operations, members.crosses) depth 40 fits 20000

object_field_sync : IsSync (object.the_field).row
object_field_sync = search (over_operations, members.crosses) depth 40 fits 20000

pub object_send : IsSend object.the_row
object_send = search (over_operations, members.crosses) depth 40 fits 20000

pub object_sync : IsSync object.the_row
object_sync = search (over_operations, members.crosses) depth 40 fits 20000

pub accepted_send : IsSend accepted.the_row
accepted_send = search (sendable, crosses, object_field_send) depth 40 fits 20000

pub accepted_sync : IsSync accepted.the_row
accepted_sync = search (sendable, crosses, object_field_sync) depth 40 fits 20000

pub ticket_send : IsSend ticket.the_row
ticket_send = search over_operations depth 40 fits 20000

pub outcome_send : IsSend outcome.the_row
outcome_send = search over_operations depth 40 fits 20000

pub outcome_sync : IsSync outcome.the_row
outcome_sync = search over_operations depth 40 fits 20000

pub call_send : IsSend call.the_row
call_send = search over_operations depth 40 fits 20000

pub call_sync : IsSync call.the_row
call_sync = search over_operations depth 40 fits 20000

pub entry_send : IsSend entry.the_row
entry_send = search (sendable, crosses, call_send, call_sync) depth 40 fits 20000

pub entry_sync : IsSync entry.the_row
entry_sync = search (sendable, crosses, call_send, call_sync) depth 40 fits 20000
