-- An epoch and its clients, up to some line.
use Rattle.std.specs.Prelude.{◌≡◌, ℕ, Bool, true, false, List, ◌∷◌, ◌+◌, [], ◌++◌, length, None, Result, Ok, Err}
use Rattle.decl_core.specs.ObjectForm.{ObjectForm}
use Rattle.audit_core.specs.View.{told_view}
use Rattle.audit_core.specs.declared.verdict.AuditFault.{AuditFault}
use Rattle.live_core.specs.declared.front.CarriedCall.{CarriedCall}
use Rattle.live_core.specs.Front.{Opening}
use Rattle.live_core.specs.Past.{events_in}
use Rattle.guest_core.specs.Guests.{Guests}
use Rattle.audit_core.specs.declared.epoch_replay.ReplayNote.{ReplayNote}
use Rattle.audit_core.specs.declared.epoch_replay.ReplayNote.TheVariants as notes
use Rattle.audit_core.specs.Steps.{Step, ran, cancelled, named, Begun, Heard, nothing_heard, ended_in}
use Rattle.audit_core.specs.EpochTells.{Tells, Tell}
use Rattle.audit_core.specs.Sound.{IsSound, IsPlayed, IsFault, IsFirstFault}
use Rattle.audit_core.specs.EpochStands.{Stands, known_call}
use Rattle.recover_core.specs.declared.playing.Playing.{Playing}
use Rattle.recover_core.specs.declared.playing.RefusedLine.{RefusedLine}
use Rattle.recover_core.specs.declared.playing.RefusedLine.TheVariants.{Faulty, Odd}
use Rattle.recover_core.specs.Lines.{IsLine, AreLines, joined}
use Rattle.recover_core.specs.Carried.{calls_of}
use Rattle.recover_core.specs.Clients.{Makes, MakeAll}
use Rattle.recover_core.specs.Odd.{IsOdd}

-- the epoch that a front begins
abbrev pub begun_by : Opening → Begun
begun_by f = record { past = events_in f.past; opening = f.parts; carried = calls_of f.carried }

-- what a line told makes of the clients
abbrev pub TakesNote : ℕ → List CarriedCall → ℕ → Guests → ReplayNote → Guests → Type 0
TakesNote base carried now old notes.Began new = new ≡ old
TakesNote base carried now old (notes.Ran known reply) new =
    Makes base carried now old (ran (known_call known) (told_view reply)) new
TakesNote base carried now old (notes.Cancelled known) new =
    Makes base carried now old (cancelled (known_call known)) new
TakesNote base carried now old (notes.Named session name) new = Makes base carried now old (named session name) new

-- how many calls ended by what a line told
abbrev pub Counts : ReplayNote → ℕ → Type 0
Counts (notes.Ran known reply) n = n ≡ 1
Counts notes.Began n = n ≡ 0
Counts (notes.Cancelled known) n = n ≡ 0
Counts (notes.Named session name) n = n ≡ 0

-- whether no call runs behind a line that told this
abbrev pub IsRest : ReplayNote → Bool → Type 0
IsRest notes.Began so = so ≡ false
IsRest (notes.Ran known reply) so = so ≡ true
IsRest (notes.Cancelled known) so = so ≡ true
IsRest (notes.Named session name) so = so ≡ true

-- what is kept of an epoch and its clients stands for what was told behind a front, with these clients at first
pub record PlayStands (o : ObjectForm) (f : Opening) (now : ℕ) (opened : Guests) (p : Playing) (heard : Heard) : Type 0 where
  pub stands : Stands o (begun_by f) p.replay heard
  pub clients : MakeAll f.base f.carried now opened heard.steps p.guests
  pub ended : p.ended ≡ ended_in heard.steps
  pub base : p.numbers.base ≡ f.base
  pub carried : p.numbers.carried.items ≡ f.carried
  pub second : p.now ≡ now

-- behind a line nothing runs, and it told a step; or a call runs that has started by it
abbrev pub StepsOn : Bool → Heard → Heard → Type 0
StepsOn true heard after = (after.running ≡ None) × ((step : Step) × (after.steps ≡ step ∷ heard.steps))
StepsOn false heard after = (heard.running ≡ None) × (after.running ≡ None → ⊥) × (after.steps ≡ heard.steps)

-- A line has its place and tells a step, and this does not fit the clients, who are those of the front and what the steps
-- before it made of them.
pub record IsContradiction (o : ObjectForm) (f : Opening) (now : ℕ) (opened : Guests) (heard : Heard) (line : List ℕ) : Type 0 where
  pub after : Heard
  pub told : Tells o (begun_by f) heard line after
  pub step : Step
  pub steps : after.steps ≡ step ∷ heard.steps
  pub clients : Guests
  pub made : MakeAll f.base f.carried now opened heard.steps clients
  pub odd : IsOdd f.base f.carried clients step

-- why a line is not taken
abbrev pub IsRefusal : ObjectForm → Opening → ℕ → Guests → Heard → List ℕ → RefusedLine → Type 0
IsRefusal o f now opened heard line (Faulty fault) = IsFault o (begun_by f) heard line fault
IsRefusal o f now opened heard line Odd = IsContradiction o f now opened heard line

-- what was found in a line
abbrev pub PlaysSo : ObjectForm → Opening → ℕ → Guests → Heard → List ℕ → Result Bool RefusedLine → Playing → Type 0
PlaysSo o f now opened heard line (Ok rests) new =
    (after : Heard) × Tells o (begun_by f) heard line after × StepsOn rests heard after
    × PlayStands o f now opened new after
PlaysSo o f now opened heard line (Err refused) new = IsRefusal o f now opened heard line refused

abbrev pub Plays : ObjectForm → List ℕ → Playing → Result Bool RefusedLine → Playing → Type 0
Plays o line old found new = (f : Opening) (now : ℕ) (opened : Guests) (heard : Heard) →
    PlayStands o f now opened old heard → PlaysSo o f now opened heard line found new

-- Lines, and what has no end behind them, were played up to the last of them at which no call runs, so many bytes.
pub record PlayedTo (o : ObjectForm) (f : Opening) (now : ℕ) (opened : Guests) (behind : List ℕ) (mark : ℕ) (p : Playing) : Type 0 where
  pub lines : List (List ℕ)
  pub rest : List ℕ
  pub each : AreLines lines
  pub open_end : IsLine rest
  pub cut : behind ≡ joined lines ++ rest
  pub heard : Heard
  pub stands : PlayStands o f now opened p heard
  pub played : IsPlayed o (begun_by f) lines (record { steps = heard.steps; running = None })
  pub mark_is : mark ≡ length (joined played.kept)

-- The last of these lines, of this number, has a fault, and those before it are sound: no epoch of which these are the
-- first lines is sound.
pub record IsFaultyAt (o : ObjectForm) (f : Opening) (behind : List ℕ) (number : ℕ) (fault : AuditFault) : Type 0 where
  pub lines : List (List ℕ)
  pub rest : List ℕ
  pub each : AreLines lines
  pub cut : behind ≡ joined lines ++ rest
  pub first : IsFirstFault o (begun_by f) lines number fault
  pub unsound : (more : List (List ℕ)) (heard : Heard) → Tell o (begun_by f) nothing_heard (lines ++ more) heard →
      IsSound o (begun_by f) heard → ⊥

-- The line of this number contradicts those before it, which have their places and are sound.
pub record IsContradictedAt (o : ObjectForm) (f : Opening) (now : ℕ) (opened : Guests) (behind : List ℕ) (number : ℕ) : Type 0 where
  pub before : List (List ℕ)
  pub line : List ℕ
  pub rest : List ℕ
  pub each : AreLines (before ++ line ∷ [])
  pub cut : behind ≡ joined (before ++ line ∷ []) ++ rest
  pub counted : number ≡ length before + 1
  pub heard : Heard
  pub told : Tell o (begun_by f) nothing_heard before heard
  pub sound : IsSound o (begun_by f) heard
  pub contradicts : IsContradiction o f now opened heard line

-- why the line of this number is not taken
abbrev pub IsRefusedAt : ObjectForm → Opening → ℕ → Guests → List ℕ → ℕ → RefusedLine → Type 0
IsRefusedAt o f now opened behind number (Faulty fault) = IsFaultyAt o f behind number fault
IsRefusedAt o f now opened behind number Odd = IsContradictedAt o f now opened behind number

-- what was found in all lines
abbrev pub PlaysAll : ObjectForm → List ℕ → Playing → Result ℕ (ℕ × RefusedLine) → Playing → Type 0
PlaysAll o behind old (Ok mark) new = (f : Opening) (now : ℕ) (opened : Guests) →
    PlayStands o f now opened old nothing_heard → PlayedTo o f now opened behind mark new
PlaysAll o behind old (Err refused) new = (f : Opening) (now : ℕ) (opened : Guests) →
    PlayStands o f now opened old nothing_heard → IsRefusedAt o f now opened behind refused.0 refused.1
