use Rattle.std.proofs.Common.{◌≤◌, length}
use Rattle.guest_core.specs.Guests.{Guests}
use Rattle.recover_core.specs.Clients.{OpenAll}
use Rattle.recover_core.proofs.clients.open_all.Given as goal

abbrev pub invariant-clients : goal.invariant-clients
invariant-clients l = record {
  opened : (new : Guests) → OpenAll l.now l.guests l.clients_left l.kept_left new → OpenAll l.now l.initial.guests l.clients l.kept new;
  clients_less : length l.clients_left ≤ length l.clients;
  kept_less : length l.kept_left ≤ length l.kept;
}

abbrev pub decreases-clients : goal.decreases-clients
decreases-clients l = length l.clients_left
