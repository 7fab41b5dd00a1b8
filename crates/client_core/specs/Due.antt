-- What is due of all objects, who may come to one, and what is noted of one.
use Rattle.std.specs.Prelude.{◌≡◌, ◌≢◌, ◌⊎◌, ◌<◌, ℕ, List, [], ◌∷◌, Option, Some, None, All, map, slice_get, slice_set, take}
use Rattle.session_text.specs.declared.line.LineRefusal.{LineRefusal}
use Rattle.session_text.specs.declared.line.LineRefusal.TheVariants.{Full, InUse}
use Rattle.decl_core.specs.ObjectForm.{ObjectForm}
use Rattle.live_core.specs.declared.call.Ran.{Ran}
use Rattle.live_core.specs.Scene.{Scene}
use Rattle.client_core.specs.Custody.{as_told}
use Rattle.client_core.specs.declared.holder.Holder.{Holder}
use Rattle.client_core.specs.declared.holder.WhenDue.TheVariants as whens
use Rattle.client_core.specs.declared.ticking.Ticking.{Ticking}
use Rattle.client_core.specs.GoneClients.{Each, due_then, later, without}
use Rattle.client_core.specs.declared.holding.OwedCall.{OwedCall}
use Rattle.client_core.specs.Holding.{Holding, Ends, IsBusy, IsCrowded, IsDueOf, LooksAt, NothingIsDueOf, with_gone, with_ticking}
use Rattle.client_core.specs.Ticks.{ChangesAt, IsFirstDue, seated_by, ticked, unticked}
use Rattle.client_core.specs.declared.all.DueCall.{DueCall}
use Rattle.client_core.specs.declared.all.DueCall.TheVariants.{Gone, Tick}
use Rattle.client_core.specs.declared.one.HoldNote.{HoldNote}
use Rattle.client_core.specs.declared.one.HoldNote.TheVariants as notes

-- a call is due now for none of these
abbrev pub NoneIsNow : List Holder → Type 0
NoneIsNow gone = All (λ (g : Holder). g.when ≢ whens.Now) gone

-- this is the first of these for which a call is due now
pub record IsFirstNow (gone : List Holder) (g : Holder) : Type 0 where
  pub place : ℕ
  pub there : slice_get gone place ≡ Some g
  pub due : g.when ≡ whens.Now
  pub first : NoneIsNow (take place gone)

-- of one object nothing is due in this second
pub record NothingIsDue (second : ℕ) (h : Holding) : Type 0 where
  pub gone : NoneIsNow h.gone
  pub ticks : All (λ (t : Ticking). second < t.at) h.ticking

-- this is due of one object: for those that are gone before what is made again and again
abbrev pub IsDueThere : ℕ → Holding → DueCall → Type 0
IsDueThere second h (Gone at one) = IsFirstNow h.gone one
IsDueThere second h (Tick at place) = NoneIsNow h.gone × IsFirstDue second h.ticking place

-- the place of the object of which a call is due
abbrev pub object_due : DueCall → ℕ
object_due (Gone at one) = at
object_due (Tick at place) = at

-- this is the first that is due of all objects, in their order
pub record IsFirst (second : ℕ) (all : List Holding) (due : DueCall) : Type 0 where
  pub holding : Holding
  pub there : slice_get all (object_due due) ≡ Some holding
  pub is : IsDueThere second holding due
  pub first : All (NothingIsDue second) (take (object_due due) all)

-- Why a client of a name may not come to an object: a new name would take the place of one that holds something; or a call
-- that was made for the client waits. Of a place without an object nothing is said.
abbrev pub IsUnwelcome : Option Holding → Option Scene → List ℕ → ℕ → Option LineRefusal → Type 0
IsUnwelcome None object name second why = why ≡ None
IsUnwelcome (Some h) None name second why = why ≡ None
IsUnwelcome (Some h) (Some object) name second why =
    (IsCrowded h.held object.guests name second × (why ≡ Some Full))
    ⊎ (((IsCrowded h.held object.guests name second → ⊥) × IsBusy h.gone object.guests name × (why ≡ Some InUse))
    ⊎ ((IsCrowded h.held object.guests name second → ⊥) × (IsBusy h.gone object.guests name → ⊥) × (why ≡ None)))

-- what is noted of one object
abbrev pub Notes : HoldNote → Holding → Holding → Type 0
Notes (notes.Waits session) old new = new ≡ with_gone old (map (due_then session whens.Waits) old.gone)
Notes (notes.Refused session second) old new = new ≡ with_gone old (map (due_then session (whens.At (later second 1))) old.gone)
Notes (notes.Frees session) old new = new ≡ with_gone old (without session old.gone)
Notes (notes.Seated place session) old new =
    (new ≡ with_ticking old new.ticking) × ChangesAt place (seated_by session) old.ticking new.ticking
Notes (notes.Ticked place second) old new =
    (new ≡ with_ticking old new.ticking) × ChangesAt place (ticked second) old.ticking new.ticking
Notes (notes.Unticked place second) old new =
    (new ≡ with_ticking old new.ticking) × ChangesAt place (unticked second) old.ticking new.ticking

-- it is this second, for one object
pub record Looks (object : Scene) (second : ℕ) (old new : Holding) : Type 0 where
  pub left : new ≡ with_gone old new.gone
  pub looks : Each (LooksAt object second) old.gone new.gone

-- what is held of the object at a place becomes another, as a relation says; where there is none, nothing changes
abbrev pub BecomesBy : (Holding → Holding → Type 0) → Option Holding → ℕ → List Holding → List Holding → Type 0
BecomesBy R None at old new = new ≡ old
BecomesBy R (Some h) at old new = (next : Holding) × R h next × (new ≡ slice_set old at next)

abbrev pub Becomes : (Holding → Holding → Type 0) → ℕ → List Holding → List Holding → Type 0
Becomes R at old new = BecomesBy R (slice_get old at) at old new

-- it is this second, for each that has an object
abbrev pub LooksBy : Option Scene → ℕ → Holding → Holding → Type 0
LooksBy None second old new = new ≡ old
LooksBy (Some object) second old new = Looks object second old new

pub record LooksAll (objects : List Scene) (second : ℕ) (old new : List Holding) : Type 0 where
  pub none : (at : ℕ) → slice_get old at ≡ None → slice_get new at ≡ None
  pub each : (at : ℕ) (h : Holding) → slice_get old at ≡ Some h →
      (next : Holding) × (slice_get new at ≡ Some next) × LooksBy (slice_get objects at) second h next

-- calls of an object have ended in this second, one after the other
abbrev pub EndsAll : Scene → ℕ → List Ran → Holding → Holding → Type 0
EndsAll object second [] old new = new ≡ old
EndsAll object second (r ∷ ran) old new =
    (mid : Holding) × Ends old second (as_told object r.call) r.reply mid × EndsAll object second ran mid new

-- the call at a place that is made again and again
abbrev pub tick_of : Option Holding → ℕ → Option Ticking
tick_of None place = None
tick_of (Some h) place = slice_get h.ticking place

-- what is to be called for a session, or that nothing is
abbrev pub IsUndone : ObjectForm → Option Holding → ℕ → Option OwedCall → Type 0
IsUndone o None session found = found ≡ None
IsUndone o (Some h) session None = NothingIsDueOf o h session
IsUndone o (Some h) session (Some u) = IsDueOf o h session u.operation u.arguments.items
