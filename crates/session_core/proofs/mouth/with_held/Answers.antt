use Rattle.std.proofs.Common.{subst}
use Rattle.session_core.specs.Written.{IsSaid}
use Rattle.session_core.proofs.Saying.{said_front, said_whole}
use Rattle.session_core.proofs.mouth.with_held.Goals as goal

pub returns-then-is_mixed : goal.returns-then-is_mixed
returns-then-is_mixed c = λ start now notes is. said_front start now c.args.health notes is

pub returns-then-is_lost : goal.returns-then-is_lost
returns-then-is_lost c = λ start now notes is. said_whole start now notes (subst (λ h. IsSaid start now h notes) c.in-Fine.is is)
