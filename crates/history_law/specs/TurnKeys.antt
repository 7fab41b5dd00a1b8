-- Each key of a name stands once in the one history.
use Rattle.std.specs.Prelude.{◌≡◌, ◌≢◌, ◌⊎◌, ℕ, true, false, List, [], ◌∷◌, ◌++◌, Option, Some, map, slice_get}
use Rattle.decl_core.specs.declared.object.Object.{Object}
use Rattle.decl_core.specs.ObjectMap.{object_of}
use Rattle.live_core.specs.declared.call.Limits.{Limits}
use Rattle.live_core.specs.Front.{Opening}
use Rattle.audit_core.specs.Steps.{Step}
use Rattle.recover_core.specs.declared.recover.House.{House}
use Rattle.live_core.specs.Fronts.{client_of}
use Rattle.live_core.specs.Scene.{Scene}
use Rattle.live_core.specs.HostedSteps.{BeginsBy}
use Rattle.history_law.specs.Keys.{KeyEvent, epoch_began, ReadEpoch, AreKnownOn, all_told, oldest}
use Rattle.history_law.specs.Keyed.{HaveKeys, IsTheCall, with_steps}
use Rattle.keep_loop.specs.Texts.{to}
use Rattle.keep_loop.specs.Turns.{Asked, Turn}
use Rattle.keep_loop.specs.Turns.Asked.{Heard, Noted, Changes}
use Rattle.client_core.specs.Custody.{Custody, held_lines}
use Rattle.history_law.specs.Said.{Account, SaysIn, Went}
use Rattle.table_core.specs.Moves.{Gives}
use Rattle.table_core.specs.Seen.{seen}
use Rattle.table_core.specs.declared.table.Table.{Table}
use Rattle.history_law.specs.Lived.{BeginsAt}
use Rattle.history_law.specs.Replied.{AreTold, HaveOneHistory, IsRepeated}

-- an object went by steps, which are what happened, and these tell this of names behind what was told before
abbrev pub NamesWent : ℕ → Scene → List KeyEvent → List (ℕ × List ℕ) → List Step → Scene → List KeyEvent → Type 0
NamesWent j old told added steps new now = (went : Went old (to j added) steps new) × (now ≡ with_steps went.0 told)

-- an object of which this is held begins its next epoch by a text: a front, and behind that the lines of what is held
pub record BeginsWithHeld (held : Option Custody) (old : Scene) (text : List ℕ) (new : Scene) : Type 0 where
  pub front : List ℕ
  pub told : text ≡ front ++ held_lines (object_of old.hall.object) held
  pub begun : BeginsBy old front new

-- what a turn tells of the names of one object, of which this is held; where its journal begins anew, that an epoch began
-- with its clients
abbrev pub NamesIn : ℕ → Option Custody → Asked → Scene → List KeyEvent → List (ℕ × List ℕ) → List Step → Scene → List KeyEvent → Type 0
NamesIn j held (Heard who line end) old told added steps new now = NamesWent j old told added steps new now
NamesIn j held (Noted note) old told added steps new now = NamesWent j old told added steps new now
NamesIn j held (Changes journal text true) old told added steps new now =
    ((journal ≡ j) × BeginsWithHeld held old text new × (now ≡ epoch_began (map client_of old.guests.guests) ∷ told))
    ⊎ ((journal ≢ j) × (new ≡ old) × (now ≡ told))
NamesIn j held (Changes journal text false) old told added steps new now = (new ≡ old) × (now ≡ told)

-- these turns lead from old to new, this happened in each of them, and this is what they tell of the names of one object
abbrev pub NamesOver : ℕ → Table → List Turn → List Account → Table → List KeyEvent → List KeyEvent → Type 0
NamesOver j old [] [] new told now = (new ≡ old) × (now ≡ told)
NamesOver j old [] (a ∷ accounts) new told now = ⊥
NamesOver j old (t ∷ turns) [] new told now = ⊥
NamesOver j old (t ∷ turns) (a ∷ accounts) new told now =
    (mid : Table) × Gives old t.asked t.said t.added mid × SaysIn (seen old) t.asked t.said t.added a (seen mid)
    × (before : Scene) × (slice_get old.objects.items j ≡ Some before) × (after : Scene) × (slice_get mid.objects.items j ≡ Some after)
    × (so_far : List KeyEvent) × NamesIn j (slice_get (seen old).custody j) t.asked before told t.added (a j) after so_far × NamesOver j mid turns accounts new so_far now

-- An object stands at a place, these turns have led there and told this of names, and each key stands once in it.
pub record HasKeysAt (first last : Table) (j : ℕ) (f : Opening) (turns : List Turn) (accounts : List Account) (told : List KeyEvent) : Type 0 where
  pub scene : Scene
  pub there : slice_get last.objects.items j ≡ Some scene
  pub events : List KeyEvent
  pub names : NamesOver j first turns accounts last told events
  pub keys : HaveKeys f events scene.guests

-- So it is behind any turns, in which an object begins any number of epochs.
abbrev pub TurnsKeepKeys : Type 0
TurnsKeepKeys =
    (first last : Table) (turns : List Turn) (accounts : List Account) (j : ℕ) (f : Opening) (old : Scene) (told : List KeyEvent) → AreTold first turns accounts last →
    slice_get first.objects.items j ≡ Some old → HaveKeys f told old.guests → HasKeysAt first last j f turns accounts told

-- An object of a new life has the keys of all epochs that were read, and its own begins behind them.
abbrev pub StartHasKeys : Type 0
StartHasKeys =
    (t : Table) (j : ℕ) (object : Object) (h : House) (lines : List ℕ) (limits : Limits) (b : BeginsAt t j object h lines limits)
    (e : ReadEpoch (object_of object)) (earlier : List (ReadEpoch (object_of object))) → e.came ≡ b.begins.came → AreKnownOn (object_of object) e earlier →
    HaveKeys (oldest (object_of object) e earlier).is.front (epoch_began (map client_of b.scene.guests.guests) ∷ all_told (object_of object) e earlier) b.scene.guests

-- A text that tells how a call ended that an object remembers tells it of the one call of this name under this key, which the
-- turns before had told of; or which the front of the oldest epoch has.
pub record IsOfItsKey (first last : Table) (turns before : List Turn) (h : HaveOneHistory first last turns) (text : List ℕ) (r : IsRepeated first last turns before h text) (f : Opening)
    (told : List KeyEvent) : Type 0 where
  pub at : HasKeysAt first r.mid r.remembered.object f before r.earlier told
  pub the_call : IsTheCall f (with_steps r.remembered.since at.events) r.remembered.now r.remembered.session r.remembered.key r.remembered.asked r.number (Some r.reply)

abbrev pub RepeatsAreOfTheirKeys : Type 0
RepeatsAreOfTheirKeys =
    (first last : Table) (turns before : List Turn) (h : HaveOneHistory first last turns) (text : List ℕ) (r : IsRepeated first last turns before h text) (f : Opening) (old : Scene)
    (told : List KeyEvent) → slice_get first.objects.items r.remembered.object ≡ Some old → HaveKeys f told old.guests → IsOfItsKey first last turns before h text r f told
