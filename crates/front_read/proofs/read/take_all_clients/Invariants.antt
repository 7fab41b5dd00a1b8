use Rattle.std.proofs.Common.{length}
use Rattle.std.specs.Prelude.{codes}
use Rattle.live_core.specs.Front.{IsClient}
use Rattle.live_core.specs.Text.{client_words}
use Rattle.front_read.specs.Rows.{AreRows}
use Rattle.front_read.proofs.read.take_all_clients.Given as goal

abbrev pub invariant-rows : goal.invariant-rows
invariant-rows l = AreRows IsClient (codes "client") client_words l.text l.out.items l.rest

abbrev pub decreases-rows : goal.decreases-rows
decreases-rows l = length l.rest
