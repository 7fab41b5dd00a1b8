-- Each reply that a connection is told is that of its call in the one history.
use Rattle.std.specs.Prelude.{◌≡◌, ◌⊎◌, ◌<◌, ℕ, true, List, [], ◌∷◌, ◌++◌, Some, slice_get}
use Rattle.value_core.specs.Contents.{Contents}
use Rattle.decl_core.specs.ObjectForm.{ObjectForm}
use Rattle.apply_core.specs.declared.reply.Reply.{Reply}
use Rattle.apply_core.specs.History.{End, IsReplyOn, leads_to}
use Rattle.word_core.specs.Events.{Called, body_at, end_of, history_of}
use Rattle.session_text.specs.Lines.{ended_text, repeated_text}
use Rattle.audit_core.specs.Steps.{Begun, happened_of}
use Rattle.live_core.specs.Scene.{Scene, told_of}
use Rattle.history_law.specs.Year.{Epoch, all_ends, first_opening}
use Rattle.keep_loop.specs.Turns.{Turn, Runs}
use Rattle.keep_loop.specs.declared.keep.LoopLimits.{LoopLimits}
use Rattle.keep_loop.specs.Seen.{Happened}
use Rattle.keep_loop.specs.Epochs.{rules_of, since_in, stored_since}
use Rattle.keep_loop.specs.Stands.{IsHonest, IsBetween}
use Rattle.history_law.specs.Said.{Account, SaysIn, HasRemembered, SaysNoReply}
use Rattle.table_core.specs.Moves.{Gives, Fronts}
use Rattle.table_core.specs.Seen.{seen}
use Rattle.table_core.specs.declared.table.Table.{Table}
use Rattle.history_law.specs.Kept.{LeavesAnswered}
use Rattle.history_law.specs.Lived.{HasLived, LivesOn, epoch_in}

-- These turns lead from old to new, this happened in each of them, and what each of them tells is true of that.
abbrev pub AreTold : Table → List Turn → List Account → Table → Type 0
AreTold old [] [] new = new ≡ old
AreTold old [] (a ∷ accounts) new = ⊥
AreTold old (t ∷ turns) [] new = ⊥
AreTold old (t ∷ turns) (a ∷ accounts) new =
    (mid : Table) × Gives old t.asked t.said t.added mid × SaysIn (seen old) t.asked t.said t.added a (seen mid) × AreTold mid turns accounts new

-- the ends of the calls of one object, the oldest first
abbrev pub ends_in : ObjectForm → ℕ → List Account → List End
ends_in o j [] = []
ends_in o j (a ∷ accounts) = history_of o (happened_of (a j)) ++ ends_in o j accounts

-- an object has lived on over turns, and these ends it has had in them
abbrev pub Lives : Table → ℕ → ObjectForm → List Turn → Begun → List Contents → List End → List End → Type 0
Lives last j o turns was opening ends done = (on : LivesOn last j o turns was opening ends) × (on.done ≡ done)

-- What happened in these turns: what they tell is true of it, and each object has lived on by just that.
pub record HaveOneHistory (first last : Table) (turns : List Turn) : Type 0 where
  pub accounts : List Account
  pub told : AreTold first turns accounts last
  pub lives : (j : ℕ) (o : ObjectForm) (begun : Begun) (earlier : List Epoch) (l : HasLived first j o begun earlier) →
      Lives last j o turns begun (first_opening (epoch_in l) earlier) (all_ends o (epoch_in l) earlier) (ends_in o j accounts)

-- Any turns have one history.
abbrev pub TurnsHaveOneHistory : Type 0
TurnsHaveOneHistory = (first last : Table) (turns : List Turn) → Runs Gives first turns last → HaveOneHistory first last turns

-- a call stands in a history, and its reply is what the sequential object gives there
pub record StandsIn (o : ObjectForm) (history : List End) (opening : List Contents) (call : Called) (reply : Reply) : Type 0 where
  pub before : List End
  pub after : List End
  pub stands : history ≡ before ++ end_of o call reply ∷ after
  pub given : IsReplyOn reply (body_at o call.operation) call.arguments (leads_to before opening)

-- A text tells the end of a call of an object, which ran once these turns before had led so far, with the number that was told
-- of it and its reply; and so the call stands in the history of all epochs of this object.
pub record IsReplied (first last : Table) (turns before : List Turn) (h : HaveOneHistory first last turns) (text : List ℕ) : Type 0 where
  pub earlier : List Account
  pub mid : Table
  pub led : AreTold first before earlier mid
  pub object : ℕ
  pub scene : Scene
  pub there : slice_get mid.objects.items object ≡ Some scene
  pub call : Called
  pub reply : Reply
  pub text_is : text ≡ ended_text (told_of scene call.number) reply
  pub stands : (o : ObjectForm) (begun : Begun) (earlier : List Epoch) (l : HasLived first object o begun earlier) →
      StandsIn o (all_ends o (epoch_in (h.lives object o begun earlier l).0.lived) (h.lives object o begun earlier l).0.earlier) (first_opening (epoch_in l) earlier) call reply

-- it tells how a call ended that an object remembers, once these turns before had led so far, and as much of this turn as is said
pub record IsRepeated (first last : Table) (turns before : List Turn) (h : HaveOneHistory first last turns) (text : List ℕ) : Type 0 where
  pub earlier : List Account
  pub account : Account
  pub later : List Account
  pub cut : h.accounts ≡ earlier ++ account ∷ later
  pub mid : Table
  pub led : AreTold first before earlier mid
  pub number : ℕ
  pub reply : Reply
  pub text_is : text ≡ repeated_text number reply
  pub remembered : HasRemembered mid.objects.items account number reply

-- What any connection is told in one of these turns with a reply is such a text.
abbrev pub RepliesStand : Type 0
RepliesStand =
    (first last : Table) (before after : List Turn) (t : Turn) (h : HaveOneHistory first last (before ++ t ∷ after)) (who : ℕ) (text : List ℕ) (front behind : List (ℕ × List ℕ)) →
    t.said ≡ front ++ (who, text) ∷ behind → IsReplied first last (before ++ t ∷ after) before h text ⊎ (IsRepeated first last (before ++ t ∷ after) before h text ⊎ SaysNoReply text)

-- A crash leaves one history of turns, as before, and what is told in them is true of it.
pub record LeavesReplied (first : Table) (limits : LoopLimits) (seen : List Happened) (found : ℕ → List ℕ) : Type 0 where
  pub answered : LeavesAnswered first limits seen found
  pub history : HaveOneHistory first answered.left.survives.last (answered.left.survives.answered ++ answered.left.survives.later)

-- So it does at each moment of a loop that is honest, where answers wait for the disk.
abbrev pub CrashLeavesReplied : Type 0
CrashLeavesReplied =
    (first : Table) (limits : LoopLimits) (seen : List Happened) (found : ℕ → List ℕ) → limits.waits ≡ true →
    IsHonest (rules_of Gives Fronts) first limits seen →
    ((j : ℕ) → j < limits.journals → IsBetween (stored_since j seen) (since_in j seen) (found j)) →
    LeavesReplied first limits seen found
