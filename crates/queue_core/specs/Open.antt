-- Calls that wait or run, as they are kept.
use Rattle.std.specs.Prelude.{◌≡◌, ◌≤◌, [], ⊤, false, Option, Some, None, is_none, vec_capacity}
use Rattle.std.specs.Arc.{arc_value}
use Rattle.value_core.specs.Limits.{most_text_bytes}
use Rattle.decl_core.specs.Bodies.{body_of}
use Rattle.decl_core.specs.Footprint.{reads_of}
use Rattle.page_core.specs.PartPins.{room_in}
use Rattle.page_core.specs.ObjectCalls.{AcceptedCall, WaitingCall, RunningCall}
use Rattle.queue_core.specs.declared.open_call.ForTicket.{ForTicket}
use Rattle.queue_core.specs.declared.open_call.Kit.{Kit}
use Rattle.queue_core.specs.declared.open_call.Waiting.TheInside.{Inside as WaitingInside}
use Rattle.queue_core.specs.declared.open_call.Running.TheInside.{Inside as RunningInside}

abbrev pub waiting_of : WaitingInside → WaitingCall
waiting_of w = record { number = w.number; call = arc_value w.kit.value.call }

abbrev pub running_of : RunningInside → RunningCall
running_of r =
    record {
      number = r.number;
      call = arc_value r.kit.value.call;
      pins = r.kit.value.pins;
      taken = is_none r.kit.value.ticket;
    }

-- what is kept for a ticket is of this call, and there is room for the pins of the parts that it reads
abbrev pub IsForTicket : AcceptedCall → ForTicket → Type 0
IsForTicket call t =
    (arc_value t.operation ≡ call.operation) × (t.args.items ≡ call.arguments) × (t.room.items ≡ [])
    × (room_in (reads_of (body_of call.operation)) 0 16 ≤ vec_capacity t.room)

abbrev pub IsForSome : AcceptedCall → Option ForTicket → Type 0
IsForSome call None = ⊤
IsForSome call (Some t) = IsForTicket call t

-- a call that waits or runs has what its ticket is made of, until that is taken, knows which parts it reads, has an
-- empty row for its entry, and room for the longest text of a reply
abbrev pub IsKit : Kit → Type 0
IsKit k =
    IsForSome (arc_value k.call) k.ticket × (k.reads ≡ reads_of (body_of (arc_value k.call).operation))
    × (k.entry.items ≡ []) × (most_text_bytes ≤ vec_capacity k.reply)

-- there is room for the pins of the parts that a call reads
abbrev pub HasRow : Kit → Type 0
HasRow k = (k.row.items ≡ []) × (room_in (reads_of (body_of (arc_value k.call).operation)) 0 16 ≤ vec_capacity k.row)

-- the ticket of a waiting call is not taken, and there is room for the pins of its start
abbrev pub IsWaiting : WaitingInside → Type 0
IsWaiting w =
    (w.session ≡ (arc_value w.kit.value.call).session) × (w.op ≡ (arc_value w.kit.value.call).op)
    × (is_none w.kit.value.ticket ≡ false) × IsKit w.kit.value × HasRow w.kit.value

abbrev pub IsRunning : RunningInside → Type 0
IsRunning r = (r.session ≡ (arc_value r.kit.value.call).session) × IsKit r.kit.value
