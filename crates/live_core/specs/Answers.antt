-- What an object answers to a call that is submitted.
use Rattle.std.specs.Prelude.{◌∷◌, [], ◌≡◌, ◌≢◌, ℕ, ◌+◌, ◌*◌, ◌<◌, ◌≤◌, ◌⊎◌, List, length}
use Rattle.value_core.specs.declared.datum.Datum.{Datum}
use Rattle.decl_core.specs.ObjectMap.{object_of}
use Rattle.word_core.specs.Events.{Called}
use Rattle.guest_core.specs.declared.answer.SubmitFault.{SubmitFault}
use Rattle.guest_core.specs.declared.answer.SubmitFault.TheVariants.{Gone, UnknownOp, BadArgs, SessionBusy, Full, HistoryFull}
use Rattle.guest_core.specs.declared.answer.SubmitFault.TheVariants.{Memory}
use Rattle.live_core.specs.declared.call.Carried.{Carried}
use Rattle.live_core.specs.declared.call.Limits.{Limits}
use Rattle.path_count.specs.declared.past.PastEvent.{PastEvent}
use Rattle.decl_core.specs.declared.object.Object.{Object}
use Rattle.live_core.specs.Hall.{Hall, Every, IsCallOf}

-- what a session asks for, with the next number
abbrev pub asked : Hall → ℕ → ℕ → List Datum → Called
asked h session operation arguments =
    record { number = h.given + 1; session = session; operation = operation; arguments = arguments }

-- there is no such session
abbrev pub IsGone : Hall → ℕ → Type 0
IsGone h session = (session ≡ 0) ⊎ (h.sessions < session)

-- no call of the session waits
abbrev pub IsFree : Hall → ℕ → Type 0
IsFree h session = Every (λ (c : Called). c.session ≢ session) h.waiting

-- nothing speaks against it
pub record IsTaken (h : Hall) (c : Called) : Type 0 where
  pub here : IsGone h c.session → ⊥
  pub call : IsCallOf (object_of h.object) c
  pub free : IsFree h c.session
  pub room : length h.waiting < h.room
  pub numbers : h.before + h.given < 65536

-- Why a call is refused: the first of the faults, in their order, that applies.
abbrev pub IsRefused : Hall → Called → SubmitFault → Type 0
IsRefused h c Gone = IsGone h c.session
IsRefused h c UnknownOp = (IsGone h c.session → ⊥) × (length (object_of h.object).operations ≤ c.operation)
IsRefused h c BadArgs =
    (IsGone h c.session → ⊥) × (c.operation < length (object_of h.object).operations)
    × (IsCallOf (object_of h.object) c → ⊥)
IsRefused h c SessionBusy =
    (IsGone h c.session → ⊥) × IsCallOf (object_of h.object) c × (IsFree h c.session → ⊥)
IsRefused h c Full =
    (IsGone h c.session → ⊥) × IsCallOf (object_of h.object) c × IsFree h c.session × (h.room ≤ length h.waiting)
IsRefused h c HistoryFull =
    (IsGone h c.session → ⊥) × IsCallOf (object_of h.object) c × IsFree h c.session × (length h.waiting < h.room)
    × (65536 ≤ h.before + h.given)
IsRefused h c Memory = IsTaken h c

-- the calls that are carried into an epoch, numbered on from this one
abbrev pub carried_from : ℕ → List Carried → List Called
carried_from n [] = []
carried_from n (c ∷ more) =
    record { number = n + 1; session = c.session; operation = c.operation; arguments = c.arguments.items }
    ∷ carried_from (n + 1) more

-- the object, the limits and the past are those that were given
pub record IsSetUp (object : Object) (limits : Limits) (past : List PastEvent) (h : Hall) : Type 0 where
  pub object_is : h.object ≡ object
  pub sessions_are : h.sessions ≡ limits.sessions
  pub room_is : h.room ≡ limits.waiting
  pub calls : 2 * h.before ≡ length past
