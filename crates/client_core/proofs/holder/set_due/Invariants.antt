use Rattle.std.proofs.Common.{◌≡◌, ◌++◌, take, drop, map}
use Rattle.client_core.specs.GoneClients.{due_then}
use Rattle.client_core.proofs.holder.set_due.Given as goal

-- those before the place are changed, the others are as they were
abbrev pub invariant-loop-place : goal.invariant-loop-place
invariant-loop-place l = l.rows.items ≡ map (due_then l.session l.when) (take l.place l.initial.rows.items) ++ drop l.place l.initial.rows.items
