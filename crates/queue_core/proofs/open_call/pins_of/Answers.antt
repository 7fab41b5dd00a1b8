use Rattle.std.proofs.Common.{length, arith}
use Rattle.queue_core.proofs.Rows.{room_more}
use Rattle.queue_core.proofs.open_call.pins_of.Goals as goal

pub filled-requires-clause-room : goal.filled-requires-clause-room
filled-requires-clause-room c = omega (arith, room_more c.args.parts 0 (length c.args.pins.now) 16 c.requires.few, c.requires.room)
