-- An epoch that begins: no line stands behind its front.
use Rattle.std.specs.Prelude.{◌≡◌, ℕ, ◌≤◌, List, []}
use Rattle.decl_core.specs.declared.object.Object.{Object}
use Rattle.decl_core.specs.ObjectForm.{ObjectForm}
use Rattle.decl_core.specs.ObjectMap.{object_of}
use Rattle.path_count.specs.declared.past.PastEvent.{PastEvent}
use Rattle.live_core.specs.declared.past.PastRun.{PastRun}
use Rattle.live_core.specs.Front.{Opening}
use Rattle.live_core.specs.Past.{events_in}
use Rattle.live_core.specs.declared.call.Limits.{Limits}
use Rattle.live_core.specs.Epochs.{told_behind}
use Rattle.live_core.specs.Hall.{IsHeld}
use Rattle.audit_core.specs.Steps.{Step, Begun, Heard, nothing_heard}
use Rattle.recover_core.specs.declared.recover.House.{House}
use Rattle.recover_core.specs.declared.recover.Recovered.{Recovered}
use Rattle.recover_core.specs.Playing.{begun_by}
use Rattle.recover_core.specs.Recovered.{HasClients}
use Rattle.live_core.specs.declared.start.EndedEpoch.{EndedEpoch}
use Rattle.live_core.specs.Again.{BeginsAgain}
use Rattle.live_core.specs.Fronts.{front_of}
use Rattle.live_core.specs.Scene.{Scene}
use Rattle.live_core.specs.HostedSteps.{IsFollowed}
use Rattle.history_law.specs.Stands.{AreSeated, Stands}

-- An object at the beginning of an epoch: this past stands behind it, no call waits, and its clients have their places.
pub record HasBegun (o : ObjectForm) (past : List PastEvent) (s : Scene) : Type 0 where
  pub object : object_of s.hall.object ≡ o
  pub held : IsHeld s.hall (told_behind past s.hall.contents)
  pub waiting : s.hall.waiting ≡ []
  pub sessions : s.hall.sessions ≤ 65535
  pub seated : AreSeated s.guests

-- It stands behind the front with that past.
abbrev pub BegunStands : Type 0
BegunStands =
    (o : ObjectForm) (past : List PastEvent) (s : Scene) (runs : List PastRun) (epoch base : ℕ) → HasBegun o past s →
    events_in runs ≡ past → Stands o (begun_by (front_of s epoch runs base)) nothing_heard s

-- An object that has begun its next epoch stands behind the front that was written for it.
abbrev pub FollowedStands : Type 0
FollowedStands =
    (o : ObjectForm) (e : Begun) (heard : Heard) (old new : Scene) (past : List PastEvent) (runs : List PastRun) (epoch base : ℕ) →
    Stands o e heard old → IsFollowed old past new → events_in runs ≡ past → Stands o (begun_by (front_of old epoch runs base)) nothing_heard new

-- So does an object that was served before and begins again.
abbrev pub AgainStands : Type 0
AgainStands =
    (object : Object) (ended : EndedEpoch) (source : ℕ) (limits : Limits) (s : Scene) (again : BeginsAgain object ended source limits s)
    (runs : List PastRun) (epoch base : ℕ) → limits.sessions ≤ 65535 → AreSeated ended.guests → events_in runs ≡ again.past
    → Stands (object_of object) (begun_by (front_of s epoch runs base)) nothing_heard s

-- Clients that are recovered are so: where the object that begins again has those.
abbrev pub RecoveredAreSeated : Type 0
RecoveredAreSeated =
    (h : House) (f : Opening) (steps : List Step) (r : Recovered) → HasClients h f steps r → h.sessions ≤ 65535 →
    AreSeated r.guests
