use Rattle.std.proofs.Common.{◌≡◌, ◌++◌, take, drop, map}
use Rattle.client_core.specs.GoneClients.{ended_for}
use Rattle.client_core.proofs.holder.end_one.Given as goal

-- those before the place are changed, the others are as they were
abbrev pub invariant-loop-place : goal.invariant-loop-place
invariant-loop-place l = l.rows.items ≡ map (ended_for l.session l.second l.reply) (take l.place l.initial.rows.items) ++ drop l.place l.initial.rows.items
