-- What is held behind the lines of an epoch.
use Rattle.std.specs.Prelude.{◌≡◌, ℕ, zero, suc, ◌<◌, ◌^◌, List, [], ◌∷◌, ◌++◌}
use Rattle.decl_core.specs.ObjectForm.{ObjectForm}
use Rattle.word_core.specs.Events.{Called, Happened, ended}
use Rattle.live_core.specs.declared.front.CarriedCall.{CarriedCall}
use Rattle.audit_core.specs.declared.epoch_replay.Known.{Known}
use Rattle.audit_core.specs.EpochStands.{known_call}
use Rattle.audit_core.specs.Steps.{Begun, Heard, Step, ran, cancelled, named, nothing_heard}
use Rattle.audit_core.specs.EpochTells.{Tell}
use Rattle.recover_core.specs.Carried.{told_by}
use Rattle.recover_core.specs.Lines.{AreLines, IsLine, joined}
use Rattle.decl_core.specs.HoldForm.{HoldForm}
use Rattle.guest_core.specs.declared.hold_ends.HoldEnds.{HoldEnds}
use Rattle.guest_core.specs.declared.hold_ends.HoldEnds.TheVariants.{ByDone, ByAny}
use Rattle.guest_core.specs.Held.{HeldCall, AreHeldBy}

-- a call with the number that its client was told
abbrev pub told_call : ℕ → Called → Called
told_call told c = record c { number = told }

abbrev pub told_as : ℕ → Known → Called
told_as told known = told_call told (known_call known)

-- the ends of the calls that ran in these steps, the newest first, with the numbers that their clients were told
abbrev pub told_ends : ℕ → List CarriedCall → List Step → List Happened
told_ends base carried [] = []
told_ends base carried (ran c reply ∷ steps) =
    ended (told_call (told_by base carried c.number) c) reply ∷ told_ends base carried steps
told_ends base carried (cancelled c ∷ steps) = told_ends base carried steps
told_ends base carried (named session client ∷ steps) = told_ends base carried steps

-- the client of each call that ran in these steps was told a number of 64 bits
abbrev pub HaveNumbers : ℕ → List CarriedCall → List Step → Type 0
HaveNumbers base carried [] = Unit {0}
HaveNumbers base carried (ran c reply ∷ steps) =
    (told_by base carried c.number < 2 ^ 64) × HaveNumbers base carried steps
HaveNumbers base carried (cancelled c ∷ steps) = HaveNumbers base carried steps
HaveNumbers base carried (named session client ∷ steps) = HaveNumbers base carried steps

-- behind more steps this is held, where that was held before them
abbrev pub HeldOn : HoldEnds → List HoldForm → ℕ → List CarriedCall → List Step → List Step → List HeldCall →
    List HeldCall → Type 0
HeldOn ends holds base carried before after old new =
    (past : List Happened) → AreHeldBy ends holds (told_ends base carried before ++ past) old →
    AreHeldBy ends holds (told_ends base carried after ++ past) new

-- the holds of an object, and which ends of calls end what is held
pub record HoldRules : Type 0 where
  pub ends : HoldEnds
  pub holds : List HoldForm

abbrev pub rules_by : HoldEnds → List HoldForm → HoldRules
rules_by ends holds = record { ends = ends; holds = holds }

-- The lines of a text, and what has no end behind them, tell what happened since an epoch began; behind that this is held,
-- where that was held when it began, by these rules. Each number that was told has 64 bits.
pub record PlaysLines (rules : HoldRules) (o : ObjectForm) (e : Begun) (base : ℕ)
    (carried : List CarriedCall) (text : List ℕ) (old new : List HeldCall) : Type 0 where
  pub lines : List (List ℕ)
  pub each : AreLines lines
  pub rest : List ℕ
  pub open_end : IsLine rest
  pub cut : text ≡ joined lines ++ rest
  pub heard : Heard
  pub told : Tell o e nothing_heard lines heard
  pub held : HeldOn rules.ends rules.holds base carried [] heard.steps old new
  pub small : HaveNumbers base carried heard.steps

-- Which ends of calls end what is held, in a journal of this format: those of done calls alone; before there was a number
-- of formats, of which 1 is the first, any.
abbrev pub ends_in : ℕ → HoldEnds
ends_in zero = ByAny
ends_in (suc zero) = ByAny
ends_in (suc (suc more)) = ByDone
