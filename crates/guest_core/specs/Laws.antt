-- Laws of what is held.
use Rattle.std.specs.Prelude.{◌≡◌, ◌≤◌, ℕ, ◌+◌, ◌==◌, Bool, true, false, List, [], ◌∷◌, ◌++◌, Option, Some, None, take, drop}
use Rattle.std.specs.Prelude.{if◌then◌else◌}
use Rattle.value_core.specs.declared.datum.Datum.{Datum}
use Rattle.decl_core.specs.ObjectForm.{ObjectForm}
use Rattle.apply_core.specs.declared.reply.Reply.{Reply}
use Rattle.apply_core.specs.declared.reply.Reply.TheVariants.{Done, Refused, Failed}
use Rattle.decl_core.specs.HoldForm.{HoldForm}
use Rattle.word_core.specs.Events.{Called, Happened, began, ended}
use Rattle.guest_core.specs.declared.hold_ends.HoldEnds.{HoldEnds}
use Rattle.guest_core.specs.declared.hold_ends.HoldEnds.TheVariants.{ByDone}
use Rattle.guest_core.specs.Held.{HeldCall, hold_of_op, hold_ended, ended_so, is_loose, AreHeldBy, KeepsHolds}
use Rattle.guest_core.specs.Held.{Fits, Gives, GivesOne}
use Rattle.guest_core.specs.Places.{IsNewest}
use Rattle.guest_core.specs.Undo.{IsUndoOf}

-- 1 where this is the hold at this place
abbrev pub one_by : ℕ → Option ℕ → ℕ
one_by r None = 0
one_by r (Some k) = if k == r then 1 else 0

abbrev pub one_done : ℕ → Option ℕ → Reply → ℕ
one_done r found (Done d) = one_by r found
one_done r found (Refused word) = 0
one_done r found (Failed failure) = 0

-- how many calls that are held by this hold were done, how many ended so that they end it, and how many are held by it
abbrev pub taken : List HoldForm → ℕ → List Happened → ℕ
taken holds r [] = 0
taken holds r (began c ∷ past) = taken holds r past
taken holds r (ended c reply ∷ past) = taken holds r past + one_done r (hold_of_op holds c.operation) reply

abbrev pub given : HoldEnds → List HoldForm → ℕ → List Happened → ℕ
given ends holds r [] = 0
given ends holds r (began c ∷ past) = given ends holds r past
given ends holds r (ended c reply ∷ past) =
    given ends holds r past + one_by r (ended_so ends reply (hold_ended holds c.operation))

abbrev pub held_by : ℕ → List HeldCall → ℕ
held_by r [] = 0
held_by r (h ∷ held) = one_by r (Some h.rule) + held_by r held

-- Where not anybody may end a hold, and each session ended only what it held: what was given back and what is held are
-- together what was taken.
abbrev pub EachGivenOnce : Type 0
EachGivenOnce =
    (ends : HoldEnds) (holds : List HoldForm) (past : List Happened) (held : List HeldCall) (r : ℕ) →
    is_loose holds r ≡ false → AreHeldBy ends holds past held → KeepsHolds ends holds past →
    given ends holds r past + held_by r held ≡ taken holds r past

-- What is called for a session that is gone ends the newest that it holds, and nothing else: so called once for each, the
-- newest first, it gives back what was held.
abbrev pub UndoGivesNewest : Type 0
UndoGivesNewest =
    (o : ObjectForm) (holds : List HoldForm) (held left : List HeldCall) (session k op : ℕ) (h : HeldCall)
    (arguments : List Datum) → IsNewest session held k h → IsUndoOf o holds h op arguments →
    GivesOne (Fits h.rule arguments) session held left → left ≡ take k held ++ drop (k + 1) held

-- so never more is given back than was taken
abbrev pub NeverMoreGiven : Type 0
NeverMoreGiven =
    (ends : HoldEnds) (holds : List HoldForm) (past : List Happened) (held : List HeldCall) (r : ℕ) →
    is_loose holds r ≡ false → AreHeldBy ends holds past held → KeepsHolds ends holds past →
    given ends holds r past ≤ taken holds r past

-- a call that was not done
abbrev pub IsNotDone : Reply → Type 0
IsNotDone (Done d) = ⊥
IsNotDone (Refused word) = Unit {0}
IsNotDone (Failed failure) = Unit {0}

-- A call that was refused or failed leaves all that is held.
abbrev pub OnlyDoneEnds : Type 0
OnlyDoneEnds =
    (holds : List HoldForm) (c : Called) (reply : Reply) (held left : List HeldCall) → IsNotDone reply →
    Gives ByDone holds c reply held left → left ≡ held
