-- What is told of a call that was made before is told of a call that stands in the one history.
use Rattle.std.specs.Prelude.{◌≡◌, ◌⊎◌, ℕ, List, ◌∷◌, ◌++◌, Some, slice_get}
use Rattle.decl_core.specs.ObjectForm.{ObjectForm}
use Rattle.apply_core.specs.declared.reply.Reply.{Reply}
use Rattle.word_core.specs.Events.{Called}
use Rattle.live_core.specs.Front.{Opening}
use Rattle.audit_core.specs.Steps.{Begun}
use Rattle.live_core.specs.Scene.{Scene, told_of}
use Rattle.history_law.specs.Year.{Epoch, all_ends, first_opening}
use Rattle.history_law.specs.Keys.{KeyEvent, KeyedCall, call_ended, IsKeptLine}
use Rattle.keep_loop.specs.Turns.{Turn}
use Rattle.history_law.specs.Said.{Account}
use Rattle.table_core.specs.declared.table.Table.{Table}
use Rattle.history_law.specs.Lived.{HasLived, epoch_in}
use Rattle.history_law.specs.Replied.{AreTold, HaveOneHistory, StandsIn, IsRepeated}
use Rattle.history_law.specs.TurnKeys.{IsOfItsKey}

-- it was told of names that a call ended with this reply, of which this number was told
pub record IsEndIn (told : List KeyEvent) (number : ℕ) (reply : Reply) : Type 0 where
  pub newer : List KeyEvent
  pub call : KeyedCall
  pub older : List KeyEvent
  pub cut : told ≡ newer ++ call_ended call ∷ older
  pub told_is : call.call.told ≡ number
  pub reply_is : call.call.reply ≡ Some reply

-- Once some of these turns had led so far a call of an object ran with this reply, of which this number was told; and it stands in
-- the history of all epochs of the object.
pub record HasStood (first last : Table) (turns : List Turn) (h : HaveOneHistory first last turns) (j number : ℕ) (reply : Reply) : Type 0 where
  pub before : List Turn
  pub accounts : List Account
  pub mid : Table
  pub led : AreTold first before accounts mid
  pub scene : Scene
  pub there : slice_get mid.objects.items j ≡ Some scene
  pub call : Called
  pub told_is : number ≡ told_of scene call.number
  pub stands : (o : ObjectForm) (begun : Begun) (earlier : List Epoch) (l : HasLived first j o begun earlier) →
      StandsIn o (all_ends o (epoch_in (h.lives j o begun earlier l).0.lived) (h.lives j o begun earlier l).0.earlier) (first_opening (epoch_in l) earlier) call reply

-- So is the reply that is told of a call which was made before under a key: of one that ran since, of one of which it was told
-- before these turns, or of one that the front of the oldest epoch has.
abbrev pub RepeatsStand : Type 0
RepeatsStand =
    (first last : Table) (turns before : List Turn) (h : HaveOneHistory first last turns) (text : List ℕ) (r : IsRepeated first last turns before h text) (f : Opening) (told : List KeyEvent)
    (k : IsOfItsKey first last turns before h text r f told) →
    HasStood first last turns h r.remembered.object r.number r.reply
    ⊎ (IsEndIn told r.number r.reply ⊎ IsKeptLine f.clients f.kept k.the_call.guest.name r.remembered.key k.the_call.call)
