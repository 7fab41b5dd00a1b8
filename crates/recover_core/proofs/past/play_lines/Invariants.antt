use Rattle.std.proofs.Common.{length}
use Rattle.decl_core.specs.ObjectMap.{object_of}
use Rattle.audit_core.specs.EpochStands.{Stands}
use Rattle.audit_core.specs.Steps.{Begun, nothing_heard}
use Rattle.decl_core.specs.HoldMap.{holds_of}
use Rattle.recover_core.proofs.HoldPlaying.{Plays}
use Rattle.recover_core.proofs.past.play_lines.Given as goal

abbrev pub invariant-lines : goal.invariant-lines
invariant-lines l = (e : Begun) → Stands (object_of l.object) e l.initial.replay nothing_heard → Plays l.ends (object_of l.object) (holds_of l.holds) e l.base l.carried l.behind l.rest l.initial.all l.all l.replay

abbrev pub decreases-lines : goal.decreases-lines
decreases-lines l = length l.rest
