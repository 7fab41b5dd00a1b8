use Rattle.std.proofs.Common.{ℕ, ◌+◌, ◌≤◌, length}
use Rattle.decl_core.specs.ObjectMap.{object_of}
use Rattle.live_core.specs.Front.{Opening}
use Rattle.guest_core.specs.Guests.{Guests}
use Rattle.audit_core.specs.Steps.{nothing_heard}
use Rattle.recover_core.specs.Playing.{PlayStands}
use Rattle.recover_core.proofs.Hearing.{Follows}
use Rattle.recover_core.proofs.playing.play.Given as goal

abbrev pub invariant-lines : goal.invariant-lines
invariant-lines l = record {
  follows : (f : Opening) (now : ℕ) (opened : Guests) → PlayStands (object_of l.object) f now opened l.initial.playing nothing_heard →
      Follows (object_of l.object) f now opened l.behind l.rest l.playing l.number l.mark;
  bound : l.number + length l.rest ≤ length l.behind;
  few : l.playing.ended ≤ l.number;
  mark : l.mark ≤ length l.behind;
}

abbrev pub decreases-lines : goal.decreases-lines
decreases-lines l = length l.rest
