-- What is called for who is gone gives back the newest that it holds, whenever it ends.
use Rattle.std.specs.Prelude.{◌≡◌, ◌≢◌, ◌+◌, ℕ, false, List, ◌∷◌, ◌++◌, take, drop}
use Rattle.decl_core.specs.ObjectForm.{ObjectForm}
use Rattle.apply_core.specs.declared.reply.Reply.{Reply}
use Rattle.apply_core.specs.declared.reply.Reply.TheVariants.{Done, Refused, Failed}
use Rattle.word_core.specs.Events.{Called, Happened}
use Rattle.decl_core.specs.HoldForm.{RulesForm}
use Rattle.guest_core.specs.declared.hold_ends.HoldEnds.TheVariants.{ByDone}
use Rattle.guest_core.specs.Held.{HeldCall, Gives, begun, is_loose}
use Rattle.guest_core.specs.Places.{IsNewest}
use Rattle.guest_core.specs.Undo.{IsUndoOf}
use Rattle.history_law.specs.Keeps.{AreApart, Keeps}

-- a call gives back the newest that its session holds, and not everybody may
pub record IsDueCall (o : ObjectForm) (rules : RulesForm) (c : Called) (held : List HeldCall) (hold : HeldCall) : Type 0 where
  pub place : ℕ
  pub newest : IsNewest c.session held place hold
  pub undo : IsUndoOf o rules.holds hold c.operation c.arguments
  pub strict : is_loose rules.holds hold.rule ≡ false

-- While it waits, and a call of another session ends, it is due for the same hold.
abbrev pub DueStays : Type 0
DueStays =
    (o : ObjectForm) (rules : RulesForm) (front behind : List Called) (c d : Called) (hold : HeldCall) (past : List Happened) (held left : List HeldCall) (told : ℕ) (reply : Reply) →
    Keeps rules.holds (front ++ d ∷ behind) past held → c.session ≢ d.session → IsDueCall o rules c held hold → Gives ByDone rules.holds d reply held left →
    IsDueCall o rules c (left ++ begun rules.holds (record d { number = told }) reply) hold

-- with this reply the hold at a place is given back, and no other; or none is
abbrev pub IsGivenBack : Reply → ℕ → List HeldCall → List HeldCall → Type 0
IsGivenBack (Done d) place held left = left ≡ take place held ++ drop (place + 1) held
IsGivenBack (Refused word) place held left = left ≡ held
IsGivenBack (Failed failure) place held left = left ≡ held

-- When it was done it has given back that hold, and no other; where it was refused or failed it has given back nothing.
abbrev pub DueGivesNewest : Type 0
DueGivesNewest =
    (o : ObjectForm) (rules : RulesForm) (c : Called) (reply : Reply) (hold : HeldCall) (held left : List HeldCall) → AreApart rules → (due : IsDueCall o rules c held hold) →
    Gives ByDone rules.holds c reply held left → IsGivenBack reply due.place held left
