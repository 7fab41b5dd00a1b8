use Rattle.std.proofs.Common.{◌≢◌, take}
use Rattle.page_core.specs.Lists.{Every}
use Rattle.office_core.specs.declared.clients.Client.{Client}
use Rattle.office_core.proofs.clients.place_of.Given as goal

abbrev pub invariant-loop-place : goal.invariant-loop-place
invariant-loop-place l = Every (λ (c : Client). c.name ≢ l.name) (take l.place l.clients)
