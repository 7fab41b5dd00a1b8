-- The call of a ticket.
use Rattle.std.specs.Arc.{arc_value}
use Rattle.page_core.specs.declared.ticket.Ticket.{Ticket}
use Rattle.page_core.specs.CallPins.{Call, call_of}

abbrev pub ticket_call : Ticket → Call
ticket_call t = call_of t.number (arc_value t.operation) t.args.items t.pins
