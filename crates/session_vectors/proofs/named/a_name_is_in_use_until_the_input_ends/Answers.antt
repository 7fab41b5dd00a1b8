use denote.Param.Send.{sendable}
use Rattle.std.proofs.Crossing.{crosses}
use Rattle.device_core.proofs.memory.MemHand.TheSendSync as hand
use Rattle.session_core.proofs.Sending.{named_sync, named_field_sync}
use Rattle.session_vectors.proofs.named.a_name_is_in_use_until_the_input_ends.Goals as goal

pub join-hand-requires-send-F : goal.join-hand-requires-send-F
join-hand-requires-send-F = search (sendable, crosses, named_sync, named_field_sync, hand.the_send) depth 40 fits 20000
