use denote.Param.Send.{sendable}
use Rattle.std.proofs.Crossing.{crosses}
use Rattle.device_core.proofs.memory.MemHand.TheSendSync as hand
use Rattle.session_core.proofs.Sending.{named_sync, named_field_sync}
use Rattle.session_vectors.proofs.deaf.a_client_that_does_not_read_holds_up_nobody.Goals as goal

pub join-one-requires-send-F : goal.join-one-requires-send-F
join-one-requires-send-F = search (sendable, crosses, named_sync, named_field_sync, hand.the_send) depth 40 fits 20000
