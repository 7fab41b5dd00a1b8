-- What each line of a talk is answered in its turn.
use Rattle.std.specs.Prelude.{◌≡◌, ◌⊎◌, ◌<◌, ℕ, Bool, true, List, [], ◌∷◌, ◌++◌, Option, Some, IfSome, slice_get}
use Rattle.std.specs.Global.{Vec}
use Rattle.value_core.specs.declared.datum.Datum.{Datum}
use Rattle.decl_core.specs.ObjectMap.{object_of}
use Rattle.apply_core.specs.declared.reply.Reply.{Reply}
use Rattle.word_core.specs.Text.{operation_name}
use Rattle.session_text.specs.Lines.{repeated_text}
use Rattle.live_core.specs.Front.{Opening}
use Rattle.live_core.specs.Hall.{Every}
use Rattle.guest_core.specs.Keys.{asks as asks_for}
use Rattle.live_core.specs.Keys.{operation_or}
use Rattle.live_core.specs.Scene.{Scene}
use Rattle.history_law.specs.Keys.{KeyEvent, IsKeptLine}
use Rattle.history_law.specs.Keyed.{HaveKeys}
use Rattle.keep_loop.specs.Turns.{Turn, Runs}
use Rattle.keep_loop.specs.declared.keep.LoopLimits.{LoopLimits}
use Rattle.keep_loop.specs.Epochs.{rules_of, since_in, stored_since}
use Rattle.keep_loop.specs.Seen.{Happened}
use Rattle.keep_loop.specs.Stands.{IsHonest, IsBetween}
use Rattle.client_core.specs.declared.ask.Ask.TheVariants as asks
use Rattle.client_core.specs.Asks.{Asks}
use Rattle.table_core.specs.Moves.{Gives, Fronts}
use Rattle.table_core.specs.Seen.{seen}
use Rattle.table_core.specs.declared.table.Table.{Table}
use Rattle.history_law.specs.Said.{Account}
use Rattle.history_law.specs.Kept.{LeavesAnswered}
use Rattle.history_law.specs.Replied.{AreTold, HaveOneHistory, IsRepeated}
use Rattle.history_law.specs.TurnKeys.{IsOfItsKey}
use Rattle.history_law.specs.Repeat.{HasStood, IsEndIn}
use Rattle.history_law.specs.Asker.{AreCut, HasSaid}
use Rattle.history_law.specs.Awaits.{AllHeld, HasOpened, IsElementOf}
use Rattle.history_law.specs.Talk.{Line, Part, texts_to}
use Rattle.history_law.specs.Talk.Part.{Comes, Hears, Between, Answers, Accepts, Ends, Withdraws, Quits, Leaves}
use Rattle.history_law.specs.Order.{IsEmpty}
use Rattle.history_law.specs.TurnWritten.{AreWritten}
use Rattle.history_law.specs.Answered.{IsAnswer}

-- in one of these turns a line of a connection was answered so: it was told this text in it, by what happened in it, and by what
-- it had said until then
pub record IsDone (first : Table) (turns : List Turn) (accounts : List Account) (c : ℕ) (line : Line) (text : List ℕ) : Type 0 where
  pub before : List Turn
  pub turn : Turn
  pub after : List Turn
  pub cut : turns ≡ before ++ turn ∷ after
  pub told : IsElementOf text (texts_to c turn.said)
  pub sooner : List Account
  pub account : Account
  pub later : List Account
  pub happened : accounts ≡ sooner ++ account ∷ later
  pub mid : Table
  pub led : AreTold first before sooner mid
  pub answer : IsAnswer (HasSaid (before ++ turn ∷ [])) c mid.objects.items account line text

-- each line that is answered in its turn is
abbrev pub IsDoneIn : Table → List Turn → List Account → ℕ → Part → Type 0
IsDoneIn first turns accounts c Comes = Unit {0}
IsDoneIn first turns accounts c (Hears line end) = Unit {0}
IsDoneIn first turns accounts c (Between line end text) = Unit {0}
IsDoneIn first turns accounts c (Answers line text) = IsDone first turns accounts c line text
IsDoneIn first turns accounts c (Accepts w) = Unit {0}
IsDoneIn first turns accounts c (Ends object w call reply) = Unit {0}
IsDoneIn first turns accounts c (Withdraws w) = Unit {0}
IsDoneIn first turns accounts c (Quits line) = Unit {0}
IsDoneIn first turns accounts c Leaves = Unit {0}

-- A line asks under a key for a call that was made before under it; its text tells how this call ended: the object, which a line
-- of this connection had asked to open, remembers it under this key, and it asked for the operation of this name, with these
-- arguments. It is the one call of its name under this key,
-- and it stands in the one history, or it was told of before these turns, or the front of the oldest epoch has it.
pub record IsRepeatOf (first last : Table) (turns : List Turn) (h : HaveOneHistory first last turns) (c : ℕ) (line : Line) (text : List ℕ) : Type 0 where
  pub before : List Turn
  pub turn : Turn
  pub after : List Turn
  pub cut : turns ≡ before ++ turn ∷ after
  pub told : IsElementOf text (texts_to c turn.said)
  pub repeated : IsRepeated first last turns before h text
  pub object : HasOpened (HasSaid (before ++ turn ∷ [])) c repeated.remembered.now.hall.object
  pub opened : Bool
  pub name : List ℕ
  pub arguments : Vec Datum
  pub asks_so : Asks opened line.is_whole line.text (asks.Call (Some repeated.remembered.key) name arguments)
  pub operation : Option ℕ
  pub named : IfSome operation (λ o. operation_name (object_of repeated.remembered.now.hall.object) o ≡ name)
  pub asked_is : repeated.remembered.asked ≡ asks_for (operation_or operation) arguments.items
  pub of_key : (f : Opening) (old : Scene) (told : List KeyEvent) → slice_get first.objects.items repeated.remembered.object ≡ Some old → HaveKeys f told old.guests →
      (k : IsOfItsKey first last turns before h text repeated f told)
      × (HasStood first last turns h repeated.remembered.object repeated.number repeated.reply
      ⊎ (IsEndIn told repeated.number repeated.reply ⊎ IsKeptLine f.clients f.kept k.the_call.guest.name repeated.remembered.key k.the_call.call))

-- Each line of each talk is answered by what happened in its turn; and a repeat that is told is of the call of its key.
pub record AreAnswered (first last : Table) (turns : List Turn) : Type 0 where
  pub written : AreWritten first last turns
  pub each : (c : ℕ) → Every (IsDoneIn first turns written.told.order.history.accounts c) (written.told.order.each c).parts
  pub repeats : (c : ℕ) (line : Line) (text : List ℕ) (number : ℕ) (reply : Reply) → IsElementOf (Answers line text) (written.told.order.each c).parts → text ≡ repeated_text number reply →
      IsRepeatOf first last turns written.told.order.history c line text

-- So it is of any turns, from a table on at which nobody is.
abbrev pub LinesAreAnswered : Type 0
LinesAreAnswered =
    (first last : Table) (turns : List Turn) → Runs Gives first turns last → AreCut turns → AllHeld first.objects.items → IsEmpty (seen first) →
    AreAnswered first last turns

-- A crash leaves one history of turns, as before, in which it is so.
pub record LeavesDone (first : Table) (limits : LoopLimits) (seen_so : List Happened) (found : ℕ → List ℕ) : Type 0 where
  pub answered : LeavesAnswered first limits seen_so found
  pub lines : AreAnswered first answered.left.survives.last (answered.left.survives.answered ++ answered.left.survives.later)

-- So it does at each moment of a loop that is honest, where answers wait for the disk.
abbrev pub CrashLeavesDone : Type 0
CrashLeavesDone =
    (first : Table) (limits : LoopLimits) (seen_so : List Happened) (found : ℕ → List ℕ) → limits.waits ≡ true →
    IsHonest (rules_of Gives Fronts) first limits seen_so →
    ((j : ℕ) → j < limits.journals → IsBetween (stored_since j seen_so) (since_in j seen_so) (found j)) →
    AllHeld first.objects.items → IsEmpty (seen first) → LeavesDone first limits seen_so found
