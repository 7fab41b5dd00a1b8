-- What a connection has open, by the parts of its talk; and that repeats, and the ends of calls, are told of just that.
use Rattle.std.specs.Prelude.{◌≡◌, ◌⊎◌, ◌<◌, ℕ, true, false, List, [], ◌∷◌, ◌++◌, Option, Some, None, slice_get}
use Rattle.apply_core.specs.declared.reply.Reply.{Reply}
use Rattle.word_core.specs.Events.{Called}
use Rattle.session_text.specs.Lines.{opened_text, repeated_text}
use Rattle.live_core.specs.Scene.{Scene}
use Rattle.keep_loop.specs.Turns.{Turn, Runs}
use Rattle.keep_loop.specs.declared.keep.LoopLimits.{LoopLimits}
use Rattle.keep_loop.specs.Epochs.{rules_of, since_in, stored_since}
use Rattle.keep_loop.specs.Seen.{Happened}
use Rattle.keep_loop.specs.Stands.{IsHonest, IsBetween}
use Rattle.client_core.specs.declared.ask.Ask.TheVariants as asks
use Rattle.client_core.specs.Asks.{Asks}
use Rattle.table_core.specs.Moves.{Gives, Fronts}
use Rattle.table_core.specs.Seen.{seen}
use Rattle.table_core.specs.declared.table.Table.{Table}
use Rattle.history_law.specs.Kept.{LeavesAnswered}
use Rattle.history_law.specs.Replied.{HaveOneHistory}
use Rattle.history_law.specs.Asker.{AreCut}
use Rattle.history_law.specs.AskedLines.{IsFresh}
use Rattle.history_law.specs.Awaits.{AllHeld}
use Rattle.history_law.specs.Talk.{Line, Part, Wanted, IsWanted}
use Rattle.history_law.specs.Talk.Part.{Comes, Hears, Between, Answers, Accepts, Ends, Withdraws, Quits, Leaves}
use Rattle.history_law.specs.Order.{IsEmpty}
use Rattle.history_law.specs.Done.{AreAnswered, IsRepeatOf}

-- the name of an object that is open, and of the client for which it is, if it is for one
pub record Open : Type 0 where
  pub name : List ℕ
  pub client : Option (List ℕ)

-- a line that asks to open this, where nothing is open, is told that it is open
pub record IsOpening (line : Line) (text : List ℕ) (o : Open) : Type 0 where
  pub key : Option ℕ
  pub text_is : text ≡ opened_text o.name key
  pub asks_so : Asks false line.is_whole line.text (asks.Open o.name o.client)

-- a text tells of nothing that it is open now
abbrev pub OpensNothing : List ℕ → Type 0
OpensNothing text = (name : List ℕ) (key : Option ℕ) → text ≡ opened_text name key → ⊥

-- What is open behind a part of a talk, by what was open before: nothing of one that comes or leaves; behind a line that is told so
-- what it asked to open; and else what was.
abbrev pub IsBehind : Option Open → Part → Option Open → Type 0
IsBehind was Comes now = now ≡ None
IsBehind was (Hears line end) now = now ≡ was
IsBehind was (Between line end text) now = now ≡ was
IsBehind was (Answers line text) now = ((o : Open) × IsOpening line text o × (now ≡ Some o)) ⊎ (OpensNothing text × (now ≡ was))
IsBehind was (Accepts w) now = now ≡ was
IsBehind was (Ends object w call reply) now = now ≡ was
IsBehind was (Withdraws w) now = now ≡ was
IsBehind was (Quits line) now = now ≡ None
IsBehind was Leaves now = now ≡ None

-- the same of parts, one after the other
abbrev pub IsOpen : Option Open → List Part → Option Open → Type 0
IsOpen was [] now = now ≡ was
IsOpen was (p ∷ parts) now = (mid : Option Open) × IsBehind was p mid × IsOpen mid parts now

-- A text tells how a call ended that was made before under the key of its line (`IsRepeatOf`): the object that remembers it has the
-- name of the one that is open, and the client of which it remembers it is the one for which that is open.
pub record IsOfOpen (first last : Table) (turns : List Turn) (h : HaveOneHistory first last turns) (c : ℕ) (line : Line) (text : List ℕ) (o : Open) : Type 0 where
  pub is : IsRepeatOf first last turns h c line text
  pub named : is.repeated.remembered.now.hall.object.name ≡ o.name
  pub client : o.client ≡ Some is.repeated.remembered.repeats.guest.name

-- A call that ended at the object at a place is the one that was wanted there (`IsWanted`); and this object has the name of the one
-- that is open.
pub record IsRunOfOpen (objects : List Scene) (at : ℕ) (w : Wanted) (call : Called) (o : Open) : Type 0 where
  pub is : IsWanted objects at w call
  pub named : is.scene.hall.object.name ≡ o.name

-- Of each talk it is known what is open behind each front of its parts. A repeat that is told is of what is open behind the parts
-- before it; each call that its connection is told the end of ran at the object that is open then; and where a call of it is
-- accepted, or is cancelled while it waits, something is open.
pub record AreOfOpen (first last : Table) (turns : List Turn) : Type 0 where
  pub answered : AreAnswered first last turns
  pub known : (c : ℕ) (before after : List Part) → (answered.written.told.order.each c).parts ≡ before ++ after → (now : Option Open) × IsOpen None before now
  pub repeats : (c : ℕ) (before after : List Part) (line : Line) (text : List ℕ) (number : ℕ) (reply : Reply) →
      (answered.written.told.order.each c).parts ≡ before ++ Answers line text ∷ after → text ≡ repeated_text number reply →
      (o : Open) × IsOpen None before (Some o) × IsOfOpen first last turns answered.written.told.order.history c line text o
  pub ends : (c : ℕ) (before after : List Part) (object : ℕ) (w : Wanted) (call : Called) (reply : Reply) →
      (answered.written.told.order.each c).parts ≡ before ++ Ends object w call reply ∷ after →
      (o : Open) × IsOpen None before (Some o) × IsRunOfOpen first.objects.items object w call o
  pub accepts : (c : ℕ) (before after : List Part) (w : Wanted) → (answered.written.told.order.each c).parts ≡ before ++ Accepts w ∷ after →
      (o : Open) × IsOpen None before (Some o)
  pub withdraws : (c : ℕ) (before after : List Part) (w : Wanted) → (answered.written.told.order.each c).parts ≡ before ++ Withdraws w ∷ after →
      (o : Open) × IsOpen None before (Some o)

-- So it is of any turns, from a table on at which nobody is, and no call of an object waits, whose sessions are such as they begin.
abbrev pub RepeatsAreOfOpen : Type 0
RepeatsAreOfOpen =
    (first last : Table) (turns : List Turn) → Runs Gives first turns last → AreCut turns → AllHeld first.objects.items → IsEmpty (seen first) →
    ((j : ℕ) (s : Scene) → slice_get first.objects.items j ≡ Some s → IsFresh s) → AreOfOpen first last turns

-- A crash leaves one history of turns, as before, in which it is so.
pub record LeavesOpen (first : Table) (limits : LoopLimits) (seen_so : List Happened) (found : ℕ → List ℕ) : Type 0 where
  pub answered : LeavesAnswered first limits seen_so found
  pub is_so : AreOfOpen first answered.left.survives.last (answered.left.survives.answered ++ answered.left.survives.later)

-- So it does at each moment of a loop that is honest, where answers wait for the disk.
abbrev pub CrashLeavesOpen : Type 0
CrashLeavesOpen =
    (first : Table) (limits : LoopLimits) (seen_so : List Happened) (found : ℕ → List ℕ) → limits.waits ≡ true →
    IsHonest (rules_of Gives Fronts) first limits seen_so →
    ((j : ℕ) → j < limits.journals → IsBetween (stored_since j seen_so) (since_in j seen_so) (found j)) →
    AllHeld first.objects.items → IsEmpty (seen first) → ((j : ℕ) (s : Scene) → slice_get first.objects.items j ≡ Some s → IsFresh s) →
    LeavesOpen first limits seen_so found
