-- A call that waits, or that runs, is the one for which its client asked.
use Rattle.std.specs.Prelude.{◌≡◌, ◌⊎◌, ℕ, List, [], ◌∷◌, ◌++◌, Option, Some, None, slice_get}
use Rattle.apply_core.specs.declared.reply.Reply.{Reply}
use Rattle.word_core.specs.Events.{Called}
use Rattle.live_core.specs.declared.call.Ran.{Ran}
use Rattle.live_core.specs.Hall.{Every, Told, IsHeld}
use Rattle.guest_core.specs.declared.guest.Guest.{Guest}
use Rattle.guest_core.specs.declared.kept.Asked.{Asked}
use Rattle.guest_core.specs.declared.seats.SeatHolder.TheVariants.{Nameless}
use Rattle.guest_core.specs.Guests.{Guests, IsNamed}
use Rattle.guest_core.specs.Keys.{asks}
use Rattle.audit_core.specs.Steps.{Step, ran}
use Rattle.live_core.specs.Calls.{AreRemembered, seat_of}
use Rattle.live_core.specs.Scene.{Scene, told_of}
use Rattle.live_core.specs.HostedSteps as hosted
use Rattle.history_law.specs.Happens.{all_happen}
use Rattle.history_law.specs.Stands.{AreSeated}
use Rattle.history_law.specs.Keys.{KeyedCall}

-- a client without a name has this session, or one with a name, of which this is so
abbrev pub ClientHas : (Guest → Type 0) → Guests → ℕ → Type 0
ClientHas Is v session = (slice_get v.seats session ≡ Some Nameless) ⊎ ((p : ℕ) × (g : Guest) × IsNamed v session p g × Is g)

-- What may be known: of a connection that has opened an object by a name; and of a call of an object, of the name for which it
-- is made, and of its key.
pub record Claims : Type 1 where
  pub named : Option ℕ → ℕ → List ℕ → Type 0
  pub called : ℕ → Asked → List ℕ → ℕ → Type 0

-- the same of the calls of one object
abbrev pub Claim : Type 1
Claim = Asked → List ℕ → ℕ → Type 0

-- nothing is known
abbrev pub no_claim : Claim
no_claim call name key = Unit {0}

abbrev pub no_claims : Claims
no_claims = record { named = λ who at name. Unit {0}; called = λ at. no_claim }

-- a client is not away, and its name is such
abbrev pub IsHere : (List ℕ → Type 0) → Guest → Type 0
IsHere Is g = (g.away ≡ None) × Is g.name

-- a client has asked for a call, and this is known of it, under the key of the next call of this client
abbrev pub HasAskedFor : Claim → Called → Guest → Type 0
HasAskedFor known c g = (g.keys.asked ≡ Some (asks c.operation c.arguments)) × known (asks c.operation c.arguments) g.name g.keys.next

-- a client without a name has the session of a call, or one with a name, which has asked for this call
abbrev pub IsKnown : Claim → Guests → Called → Type 0
IsKnown known v c = ClientHas (HasAskedFor known c) v c.session

-- Of an object: each call that waits is the one for which the client of its session asked.
pub record IsAskedOf (known : Claim) (s : Scene) : Type 0 where
  pub seated : AreSeated s.guests
  pub held : (t : Told) × IsHeld s.hall t
  pub waits : Every (IsKnown known s.guests) s.hall.waiting

-- a call runs, or is cancelled: where a client with a name has its session, that had this name when this began, and has asked for this call
pub record IsItsOwn (known : Claim) (began now : Guests) (c : Called) : Type 0 where
  pub session : seat_of c.session ≡ c.session
  pub own : (p : ℕ) (g : Guest) → IsNamed now c.session p g →
      HasAskedFor known c g × ((h : Guest) × IsNamed began c.session p h × (h.name ≡ g.name))

-- each of these that ran is
abbrev pub AreTheirOwn : (known : Claim) (began : Guests) (s : Scene) (old : Guests) (all : List Ran) (new : Guests) → AreRemembered s old all new → Type 0
AreTheirOwn known began s old [] new is = Unit {0}
AreTheirOwn known began s old (r ∷ all) new (mid, one, more) = IsItsOwn known began old r.call × AreTheirOwn known began s mid all new more

-- so is each that runs by one thing that happens, or is cancelled by it
abbrev pub IsAsked : Claim → {old new : Scene} {lines : List ℕ} → hosted.Step old lines new → Type 0
IsAsked known (hosted.comes name now a guests is_name enters) = Unit {0}
IsAsked known (hosted.gets_number session least) = Unit {0}
IsAsked known (hosted.leaves session now was_here guests left) = Unit {0}
IsAsked known {old = old} {new = new} (hosted.calls session operation arguments a does) =
    AreTheirOwn known old.guests does.mid does.mid.guests a.ran.items new.guests does.remembered
IsAsked known {old = old} (hosted.cancels session told lines gone) = IsItsOwn known old.guests old.guests gone.call

-- and by more of them
abbrev pub AreAsked : Claim → {old new : Scene} {lines : List ℕ} → hosted.Steps old lines new → Type 0
AreAsked known hosted.rests = Unit {0}
AreAsked known (hosted.does step) = IsAsked known step
AreAsked known (hosted.goes_on first more) = AreAsked known first × AreAsked known more

-- In these steps, by which an object went on from a scene, a call ran that is the one under this key: of the session that the
-- client of this name had then, of the operation and with the arguments that were asked, by the number that was told, and it
-- replied this; and this is known of it.
pub record HasRunUnder (known : Claim) (first : Scene) (steps : List Step) (k : KeyedCall) (reply : Reply) : Type 0 where
  pub call : Called
  pub asked : k.call.asked ≡ asks call.operation call.arguments
  pub is_known : known k.call.asked k.name k.key
  pub told_is : k.call.told ≡ told_of first call.number
  pub now : Scene
  pub lines : List ℕ
  pub since : hosted.Steps first lines now
  pub place : ℕ
  pub guest : Guest
  pub by : IsNamed now.guests call.session place guest
  pub named : guest.name ≡ k.name
  pub later : List Step
  pub before : List Step
  pub ran_so : steps ≡ later ++ ran call reply ∷ (before ++ all_happen since [])
