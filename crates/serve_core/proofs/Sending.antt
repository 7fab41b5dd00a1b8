-- What sessions leave, and the gate, may be shared by threads.
use denote.RattleType.{RattleType}
use denote.Struct.Declared as struct_of
use denote.Enum.Declared as enum_of
use denote.Param.Send.{IsSend, IsSync, AllSend, EachSend, struct_send, enum_send, recorded_send, sendable}
use Rattle.std.proofs.Crossing.{crosses, Vec-send}
use Rattle.device_core.specs.declared.hand.Hand.{Ghosts}
use Rattle.office_core.proofs.SlipSending.{slip_send}
use Rattle.office_core.proofs.seat.Seat.TheSendSync as seat
use Rattle.office_core.specs.contracts.slip.Slip as slip
use Rattle.serve_core.specs.contracts.backed.Backed as backed
use Rattle.serve_core.specs.contracts.listen.SessionLeavings as left
use Rattle.serve_core.specs.contracts.listen.SessionResult as came
use Rattle.serve_core.specs.contracts.listen.Results as results
use Rattle.serve_core.specs.contracts.gate.Gate as gate

backed_field_send : (H : RattleType) (g : Ghosts H.Denot) → IsSend H → IsSend (backed.the_field H g).row
backed_field_send H g send = let v = Vec-send slip.the_row slip_send in search (sendable, v.owned, send.owned) depth 40

left_field_send : (H : RattleType) (g : Ghosts H.Denot) → IsSend H → IsSend (left.the_field H g).row
left_field_send H g send =
    let all : AllSend (struct_of.shape (left.the_type H g)).fields = (search sendable depth 40, (search (sendable, crosses, seat.the_send) depth 40, (backed_field_send H g send, (search sendable depth 40, tt)))) in
    struct_send (struct_of.shape (left.the_type H g)) all

-- what one thread leaves may go to another thread where the hand may
pub result_send : (H : RattleType) (g : Ghosts H.Denot) → IsSend H → IsSend (came.the_row H g)
result_send H g send =
    let each : EachSend (enum_of.shape (came.the_type H g)).variants = ((left_field_send H g send, tt), ((search sendable depth 40, tt), tt)) in
    recorded_send _ _ _ (came.the_type H g).to_one (enum_send (enum_of.shape (came.the_type H g)) each)

pub results_sync : (C : RattleType) → IsSend C → IsSync (results.the_row C)
results_sync C send = let v = Vec-send C send in search (sendable, crosses, v) depth 40

pub gate_sync : IsSync gate.the_row
gate_sync = search (sendable, crosses) depth 40 fits 20000
