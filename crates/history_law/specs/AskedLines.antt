-- What ran under a key is what a line asked for, under this key or without one.
use Rattle.std.specs.Prelude.{◌≡◌, ◌⊎◌, ◌<◌, ℕ, Bool, true, List, [], ◌∷◌, ◌++◌, Option, Some, None, option_map, slice_get}
use Rattle.std.specs.Global.{Vec}
use Rattle.value_core.specs.declared.datum.Datum.{Datum}
use Rattle.decl_core.specs.declared.object.Object.{Object}
use Rattle.decl_core.specs.ObjectForm.{ObjectForm}
use Rattle.decl_core.specs.ObjectMap.{object_of}
use Rattle.decl_core.specs.HoldForm.{RulesForm}
use Rattle.word_core.specs.Text.{operation_name}
use Rattle.guest_core.specs.declared.kept.Asked.{Asked}
use Rattle.live_core.specs.Scene.{Scene}
use Rattle.history_law.specs.Keyed.{HaveKeys}
use Rattle.history_law.specs.Keys.{KeyEvent}
use Rattle.history_law.specs.Stands.{AreSeated}
use Rattle.live_core.specs.Front.{Opening}
use Rattle.keep_loop.specs.Turns.{Turn, Runs}
use Rattle.keep_loop.specs.declared.keep.LoopLimits.{LoopLimits}
use Rattle.keep_loop.specs.Epochs.{rules_of, since_in, stored_since}
use Rattle.keep_loop.specs.Seen.{Happened}
use Rattle.keep_loop.specs.Stands.{IsHonest, IsBetween}
use Rattle.client_core.specs.declared.ask.Ask.TheVariants as asks
use Rattle.client_core.specs.Asks.{Asks}
use Rattle.client_core.specs.Custody.{Custody, IsOwed}
use Rattle.table_core.specs.Moves.{Gives, Fronts}
use Rattle.table_core.specs.Seen.{IsQuiet, seen}
use Rattle.table_core.specs.declared.table.Table.{Table}
use Rattle.history_law.specs.Asked.{Claims}
use Rattle.history_law.specs.AskedKeys.{HasAskedKeys}
use Rattle.history_law.specs.Asker.{AreCut, HasSaid}
use Rattle.history_law.specs.Awaits.{AllHeld, Lines}
use Rattle.history_law.specs.Kept.{LeavesAnswered}
use Rattle.history_law.specs.Repeats.{IsAskedRepeat}
use Rattle.history_law.specs.Replied.{IsReplied}
use Rattle.history_law.specs.Said.{SaysNoReply}
use Rattle.history_law.specs.Turns.{HaveAsked}

-- A line of a connection asked to open this object by this name.
pub record HasOpenedAs (heard : Lines) (who : ℕ) (object : Object) (name : List ℕ) : Type 0 where
  pub line : List ℕ
  pub is_whole : Bool
  pub is_heard : heard who line is_whole
  pub had_opened : Bool
  pub asks_so : Asks had_opened is_whole line (asks.Open object.name (Some name))

-- A line of a connection that had opened this object by this name asked for this call: for its operation, by name, with its
-- arguments, and under this key, or without one.
pub record HasAskedUnder (heard : Lines) (object : Object) (call : Asked) (name : List ℕ) (key : ℕ) : Type 0 where
  pub who : ℕ
  pub opened : HasOpenedAs heard who object name
  pub line : List ℕ
  pub is_heard : heard who line true
  pub under : Option ℕ
  pub key_is : (under ≡ None) ⊎ (under ≡ Some key)
  pub arguments : Vec Datum
  pub asks_so : Asks true true line (asks.Call under (operation_name (object_of object) call.operation) arguments)
  pub arguments_are : call.arguments ≡ arguments.items

-- No line asked for it: by the rules of the object it was owed. So it gives back what a session held, or is made again and again.
pub record WasOwed (o : ObjectForm) (rules : Option RulesForm) (call : Asked) : Type 0 where
  pub custody : Custody
  pub rules_are : rules ≡ Some custody.rules
  pub session : ℕ
  pub owed : IsOwed o custody session call.operation call.arguments

-- what an object says of clients that are gone and of time
abbrev pub rules_in_custody : Option Custody → Option RulesForm
rules_in_custody custody = option_map (λ (c : Custody). c.rules) custody

-- In these turns a line of a connection asked to open the object at a place, as it stood in a table, by this name.
pub record IsNamedBy (first : Table) (turns : List Turn) (here : Option ℕ) (at : ℕ) (name : List ℕ) : Type 0 where
  pub who : ℕ
  pub who_is : here ≡ Some who
  pub scene : Scene
  pub there : slice_get first.objects.items at ≡ Some scene
  pub opened : HasOpenedAs (HasSaid turns) who scene.hall.object name

-- In these turns a line asked for a call of it under this key of this name, or it was owed.
pub record IsCalledBy (first : Table) (turns : List Turn) (at : ℕ) (call : Asked) (name : List ℕ) (key : ℕ) : Type 0 where
  pub scene : Scene
  pub there : slice_get first.objects.items at ≡ Some scene
  pub by : HasAskedUnder (HasSaid turns) scene.hall.object call name key ⊎ WasOwed (object_of scene.hall.object) (rules_in_custody (slice_get (seen first).custody at)) call

-- both is known
abbrev pub by_lines : Table → List Turn → Claims
by_lines first turns = record { named = IsNamedBy first turns; called = IsCalledBy first turns }

-- no call of an object waits, and its sessions are such as they begin
abbrev pub IsFresh : Scene → Type 0
IsFresh s = AreSeated s.guests × (s.hall.waiting ≡ [])

-- So it is in any turns, from a table on of which nobody has opened an object, and no call waits: each call that waits, runs or is
-- cancelled is such.
abbrev pub CallsAreOfLines : Type 0
CallsAreOfLines =
    (first last : Table) (turns : List Turn) → Runs Gives first turns last → AreCut turns → AllHeld first.objects.items →
    ((j : ℕ) (s : Scene) → slice_get first.objects.items j ≡ Some s → IsFresh s) → IsQuiet (seen first) → HaveAsked (by_lines first turns) first last turns

-- So is each call of which these turns tell that it ended or was cancelled under a key, and each that the object remembers; or it was
-- told of before these turns, or the front of the oldest epoch has it.
abbrev pub KeysAreOfLines : Type 0
KeysAreOfLines =
    (first last : Table) (turns : List Turn) (h : HaveAsked (by_lines first turns) first last turns) (j : ℕ) (f : Opening) (old : Scene) (told : List KeyEvent) → slice_get first.objects.items j ≡ Some old →
    HaveKeys f told old.guests → HasAskedKeys (by_lines first turns) first last turns h.history j f told

-- So is the call of which who asks again under a key is told how it ended.
abbrev pub RepeatsAreOfLines : Type 0
RepeatsAreOfLines =
    (first last : Table) (before after : List Turn) (t : Turn) (have : HaveAsked (by_lines first (before ++ t ∷ after)) first last (before ++ t ∷ after)) (who : ℕ) (text : List ℕ) (front behind : List (ℕ × List ℕ)) →
    t.said ≡ front ++ (who, text) ∷ behind →
    IsReplied first last (before ++ t ∷ after) before have.history text
    ⊎ (IsAskedRepeat (by_lines first (before ++ t ∷ after)) first last (before ++ t ∷ after) before have.history text ⊎ SaysNoReply text)

-- A crash leaves one history of turns, as before, in which it is so.
pub record LeavesLines (first : Table) (limits : LoopLimits) (seen_so : List Happened) (found : ℕ → List ℕ) : Type 0 where
  pub answered : LeavesAnswered first limits seen_so found
  pub asked : HaveAsked (by_lines first (answered.left.survives.answered ++ answered.left.survives.later)) first answered.left.survives.last
      (answered.left.survives.answered ++ answered.left.survives.later)

-- So it does at each moment of a loop that is honest, where answers wait for the disk.
abbrev pub CrashLeavesLines : Type 0
CrashLeavesLines =
    (first : Table) (limits : LoopLimits) (seen_so : List Happened) (found : ℕ → List ℕ) → limits.waits ≡ true →
    IsHonest (rules_of Gives Fronts) first limits seen_so →
    ((j : ℕ) → j < limits.journals → IsBetween (stored_since j seen_so) (since_in j seen_so) (found j)) →
    AllHeld first.objects.items → ((j : ℕ) (s : Scene) → slice_get first.objects.items j ≡ Some s → IsFresh s) → IsQuiet (seen first) →
    LeavesLines first limits seen_so found
