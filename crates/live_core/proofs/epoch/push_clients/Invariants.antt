use Rattle.std.proofs.Common.{◌≡◌, ◌++◌, map, take}
use Rattle.live_core.specs.Text.{clients_text}
use Rattle.live_core.specs.Fronts.{client_of}
use Rattle.live_core.proofs.epoch.push_clients.Given as goal

abbrev pub invariant-loop-guest : goal.invariant-loop-guest
invariant-loop-guest l = l.out.items ≡ l.initial.out.items ++ clients_text (map client_of (take l.guest-index l.guests))
