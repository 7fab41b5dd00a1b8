-- An index may be handed to another thread and shared between threads.
use denote.Param.Send.{IsSend, IsSync, sendable}
use Rattle.std.proofs.Crossing.{crosses}
use Rattle.board_core.specs.contracts.index.Index as index

pub index_send : IsSend index.the_row
index_send = search (sendable, crosses) depth 40 fits 20000

pub index_sync : IsSync index.the_row
index_sync = search (sendable, crosses) depth 40 fits 20000
