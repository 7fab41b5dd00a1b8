use Rattle.std.proofs.Common.{take}
use Rattle.page_core.specs.Lists.{Every}
use Rattle.office_core.specs.declared.clients.Client.{Client}
use Rattle.office_core.specs.Clients.{IsOut}
use Rattle.office_core.proofs.clients.place_out.Given as goal

abbrev pub invariant-loop-place : goal.invariant-loop-place
invariant-loop-place l = Every (λ (c : Client). IsOut l.session c → ⊥) (take l.place l.clients)
