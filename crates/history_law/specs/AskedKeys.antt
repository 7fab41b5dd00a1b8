-- What ran under a key is what was asked under it.
use Rattle.std.specs.Prelude.{◌≡◌, ◌⊎◌, ◌<◌, ℕ, true, List, ◌∷◌, ◌++◌, Some, slice_get}
use Rattle.decl_core.specs.ObjectForm.{ObjectForm}
use Rattle.apply_core.specs.declared.reply.Reply.{Reply}
use Rattle.live_core.specs.Front.{Opening}
use Rattle.guest_core.specs.declared.guest.Guest.{Guest}
use Rattle.guest_core.specs.declared.kept.RememberedCall.{RememberedCall}
use Rattle.guest_core.specs.Keys.{HasKey}
use Rattle.audit_core.specs.Steps.{Begun}
use Rattle.live_core.specs.Scene.{Scene}
use Rattle.history_law.specs.Year.{Epoch, all_ends, first_opening}
use Rattle.history_law.specs.Keys.{KeyEvent, KeyedCall, IsKeptLine}
use Rattle.history_law.specs.Keyed.{HaveKeys}
use Rattle.keep_loop.specs.Turns.{Turn}
use Rattle.keep_loop.specs.declared.keep.LoopLimits.{LoopLimits}
use Rattle.keep_loop.specs.Epochs.{rules_of, since_in, stored_since}
use Rattle.keep_loop.specs.Seen.{Happened}
use Rattle.keep_loop.specs.Stands.{IsHonest, IsBetween}
use Rattle.history_law.specs.Said.{Account}
use Rattle.table_core.specs.Moves.{Gives, Fronts}
use Rattle.table_core.specs.Seen.{seen}
use Rattle.table_core.specs.declared.table.Table.{Table}
use Rattle.history_law.specs.Kept.{LeavesAnswered}
use Rattle.history_law.specs.Lived.{HasLived, epoch_in}
use Rattle.history_law.specs.Replied.{AreTold, HaveOneHistory, StandsIn}
use Rattle.history_law.specs.TurnKeys.{HasKeysAt}
use Rattle.history_law.specs.Asked.{Claims, HasRunUnder, no_claims}
use Rattle.history_law.specs.Tells.{WasTold}
use Rattle.history_law.specs.Turns.{AllAsked, HaveAsked}

-- A call ran under a key in one of these turns, as it was asked under this key (`HasRunUnder`), and with this reply it stands in the
-- history of all epochs of its object.
pub record IsItsCall (claims : Claims) (first last : Table) (turns : List Turn) (h : HaveOneHistory first last turns) (j : ℕ) (k : KeyedCall) (reply : Reply) : Type 0 where
  pub before : List Turn
  pub sooner : List Account
  pub account : Account
  pub later : List Account
  pub cut : h.accounts ≡ sooner ++ account ∷ later
  pub mid : Table
  pub led : AreTold first before sooner mid
  pub scene : Scene
  pub there : slice_get mid.objects.items j ≡ Some scene
  pub run : HasRunUnder (claims.called j) scene (account j) k reply
  pub stands : (o : ObjectForm) (begun : Begun) (earlier : List Epoch) (l : HasLived first j o begun earlier) →
      StandsIn o (all_ends o (epoch_in (h.lives j o begun earlier l).0.lived) (h.lives j o begun earlier l).0.earlier) (first_opening (epoch_in l) earlier) run.call reply

-- a call of a client, under this key
abbrev pub under : Guest → ℕ → RememberedCall → KeyedCall
under g key c = record { name = g.name; key = key; call = c }

-- Behind turns an object has the keys of what was told of names. Each call of which these turns told that it ended under a key
-- with a reply is such, and of each of which they told that it ended, or was cancelled, this is known; and so is each that the object remembers of a client, or it was told of before these turns, or the front
-- of the oldest epoch has it.
pub record HasAskedKeys (claims : Claims) (first last : Table) (turns : List Turn) (h : HaveOneHistory first last turns) (j : ℕ) (f : Opening) (told : List KeyEvent) : Type 0 where
  pub at : HasKeysAt first last j f turns h.accounts told
  pub each : (k : KeyedCall) (reply : Reply) → WasTold at.events k → k.call.reply ≡ Some reply → IsItsCall claims first last turns h j k reply ⊎ WasTold told k
  pub known : (k : KeyedCall) → WasTold at.events k → claims.called j k.call.asked k.name k.key ⊎ WasTold told k
  pub remembered : (place : ℕ) (g : Guest) (key n : ℕ) (c : RememberedCall) (reply : Reply) → slice_get at.scene.guests.guests place ≡ Some g → HasKey g.keys key n c → c.reply ≡ Some reply →
      IsItsCall claims first last turns h j (under g key c) reply ⊎ (WasTold told (under g key c) ⊎ IsKeptLine f.clients f.kept g.name key c)

-- So it is over all turns.
abbrev pub KeysAreAsked : Type 0
KeysAreAsked =
    (first last : Table) (turns : List Turn) (h : HaveAsked no_claims first last turns) (j : ℕ) (f : Opening) (old : Scene) (told : List KeyEvent) → slice_get first.objects.items j ≡ Some old →
    HaveKeys f told old.guests → HasAskedKeys no_claims first last turns h.history j f told

-- A crash leaves one history of turns, as before, in which it is so.
pub record LeavesKeys (first : Table) (limits : LoopLimits) (seen_so : List Happened) (found : ℕ → List ℕ) : Type 0 where
  pub answered : LeavesAnswered first limits seen_so found
  pub asked : HaveAsked no_claims first answered.left.survives.last (answered.left.survives.answered ++ answered.left.survives.later)

-- So it does at each moment of a loop that is honest, where answers wait for the disk.
abbrev pub CrashLeavesKeys : Type 0
CrashLeavesKeys =
    (first : Table) (limits : LoopLimits) (seen_so : List Happened) (found : ℕ → List ℕ) → limits.waits ≡ true →
    IsHonest (rules_of Gives Fronts) first limits seen_so →
    ((j : ℕ) → j < limits.journals → IsBetween (stored_since j seen_so) (since_in j seen_so) (found j)) →
    AllAsked no_claims first.objects.items (seen first).peers → LeavesKeys first limits seen_so found
