-- A key in the history of all epochs. No line of a call has its key: a call of a client that has a name has the next
-- key of its name at the moment at which it ends or is cancelled, and then that key is counted.
use Rattle.std.specs.Prelude.{◌≡◌, ◌≢◌, ◌⊎◌, ℕ, ◌+◌, ◌<◌, List, [], ◌∷◌, ◌++◌, map, slice_get, bytes_eq}
use Rattle.std.specs.Prelude.{if◌then◌else◌, Option, Some, None}
use Rattle.decl_core.specs.ObjectForm.{ObjectForm}
use Rattle.apply_core.specs.declared.reply.Reply.{Reply}
use Rattle.apply_core.specs.History.{End}
use Rattle.word_core.specs.Events.{body_at}
use Rattle.live_core.specs.declared.front.NamedClient.{NamedClient}
use Rattle.live_core.specs.declared.front.KeptCall.{KeptCall}
use Rattle.live_core.specs.Front.{Opening}
use Rattle.guest_core.specs.declared.guest.Guest.{Guest}
use Rattle.guest_core.specs.declared.kept.Asked.{Asked}
use Rattle.guest_core.specs.declared.kept.RememberedCall.{RememberedCall}
use Rattle.guest_core.specs.declared.keys.Judged.TheVariants.{Repeat}
use Rattle.guest_core.specs.declared.seats.SeatHolder.{SeatHolder}
use Rattle.guest_core.specs.declared.seats.SeatHolder.TheVariants.{Void, Free, Nameless, Named, Retired}
use Rattle.guest_core.specs.Guests.{Guests}
use Rattle.guest_core.specs.Keys.{Judges, asks}
use Rattle.audit_core.specs.Steps.{Step, ran, cancelled, named}
use Rattle.recover_core.specs.declared.recover.Recovered.{Recovered}
use Rattle.recover_core.specs.Carried.{told_by}
use Rattle.recover_core.specs.Clients.{MakeAll}
use Rattle.recover_core.specs.Chain.{IsSameCall, AreKnown}
use Rattle.recover_core.specs.Epochs as chains
use Rattle.recover_core.specs.declared.epochs.Epochs.{Epochs}
use Rattle.history_law.specs.Year.{Epoch, AreEpochs, IsSound, all_ends}
use Rattle.history_law.specs.Read.{IsReadOf}

-- A call of a client that has a name: the name, the key, and what it asked for, the number that its client was told,
-- and its reply (`None`: it was cancelled).
pub record KeyedCall : Type 0 where
  pub name : List ℕ
  pub key : ℕ
  pub call : RememberedCall

-- What is told of names: an epoch began with these clients; a session got a name; a call of a client with a name ended
-- or was cancelled. The calls that a front keeps are told by none of these: they ended before.
pub data KeyEvent : Type 0 where
  epoch_began : List NamedClient → KeyEvent
  name_came : List ℕ → KeyEvent
  call_ended : KeyedCall → KeyEvent

-- the client of a session, where it has a name
abbrev pub client_at : Guests → Option SeatHolder → Option Guest
client_at v (Some (Named place)) = slice_get v.guests place
client_at v (Some Void) = None
client_at v (Some Free) = None
client_at v (Some Nameless) = None
client_at v (Some Retired) = None
client_at v None = None

abbrev pub client_of : Guests → ℕ → Option Guest
client_of v session = client_at v (slice_get v.seats session)

-- a call that ends has the next key of its client; of a session without a name nothing is told
abbrev pub under_key : Option Guest → RememberedCall → List KeyEvent
under_key None call = []
under_key (Some g) call = call_ended (record { name = g.name; key = g.keys.next; call = call }) ∷ []

-- what a step behind a front tells of names, where these were the clients before it
abbrev pub told_by_step : Opening → Guests → Step → List KeyEvent
told_by_step f v (ran c reply) = under_key (client_of v c.session)
    (record { asked = asks c.operation c.arguments; told = told_by f.base f.carried c.number; reply = Some reply })
told_by_step f v (cancelled c) = under_key (client_of v c.session)
    (record { asked = asks c.operation c.arguments; told = told_by f.base f.carried c.number; reply = None })
told_by_step f v (named session name) = name_came name ∷ []

-- and what steps tell, the newest first, each with the clients that those before it made
abbrev pub told_by_steps : (f : Opening) (now : ℕ) (opened : Guests) (steps : List Step) (new : Guests) →
    MakeAll f.base f.carried now opened steps new → List KeyEvent
told_by_steps f now opened [] new makes = []
told_by_steps f now opened (step ∷ steps) new (mid, before, makes) =
    told_by_step f mid step ++ told_by_steps f now opened steps mid before

-- an epoch that is read of a text
pub record ReadEpoch (o : ObjectForm) : Type 0 where
  pub text : List ℕ
  pub came : Recovered
  pub epoch : Epoch
  pub is : IsReadOf o text came epoch

abbrev pub texts_of : (o : ObjectForm) → List (ReadEpoch o) → List (List ℕ)
texts_of o all = map (λ e. e.text) all

abbrev pub epochs_of : (o : ObjectForm) → List (ReadEpoch o) → List Epoch
epochs_of o all = map (λ e. e.epoch) all

-- what an epoch tells of names behind what was told before it: first its front, then the steps of its history
abbrev pub told_with : (o : ObjectForm) → ReadEpoch o → List KeyEvent → List KeyEvent
told_with o e before =
    told_by_steps e.is.front e.is.house.now e.is.read.is.clients.opened e.is.read.is.steps e.came.guests
    e.is.read.is.clients.makes
    ++ epoch_began e.is.front.clients ∷ before

-- what all epochs tell of names, the newest first
abbrev pub all_told : (o : ObjectForm) → ReadEpoch o → List (ReadEpoch o) → List KeyEvent
all_told o e [] = told_with o e []
all_told o e (d ∷ earlier) = told_with o e (all_told o d earlier)

-- the clients with which each epoch began were known at the end of the one before it, each with its next key
abbrev pub AreKnownOn : (o : ObjectForm) → ReadEpoch o → List (ReadEpoch o) → Type 0
AreKnownOn o e [] = Unit {0}
AreKnownOn o e (d ∷ earlier) = AreKnown d.came.guests e.is.front.clients e.is.front.kept × AreKnownOn o d earlier

-- the client of this name among those of a front
pub record IsAmong (clients : List NamedClient) (name : List ℕ) (c : NamedClient) : Type 0 where
  pub place : ℕ
  pub there : slice_get clients place ≡ Some c
  pub is_named : c.name ≡ name

-- A name stays known while this is told: no session gets it anew, and each epoch begins with a client of it. A name
-- that a front lacks was forgotten. A name that comes anew begins with key 1 again: so the same key may stand in the
-- history twice, but never while the name stays known.
abbrev pub StaysKnown : List ℕ → List KeyEvent → Type 0
StaysKnown name [] = Unit {0}
StaysKnown name (epoch_began clients ∷ told) = ((c : NamedClient) × IsAmong clients name c) × StaysKnown name told
StaysKnown name (name_came other ∷ told) = (other ≢ name) × StaysKnown name told
StaysKnown name (call_ended c ∷ told) = StaysKnown name told

-- how many calls of a name ended
abbrev pub calls_of : List ℕ → List KeyEvent → ℕ
calls_of name [] = 0
calls_of name (epoch_began clients ∷ told) = calls_of name told
calls_of name (name_came other ∷ told) = calls_of name told
calls_of name (call_ended c ∷ told) = (if bytes_eq c.name name then 1 else 0) + calls_of name told

-- Behind this the next call of a name has this key: behind a front the one more than its client has used, 1 behind the
-- line by which the name comes, and behind a call of it one more.
abbrev pub Gives : List ℕ → KeyEvent → ℕ → Type 0
Gives name (epoch_began clients) key = (c : NamedClient) × IsAmong clients name c × (key ≡ c.keys + 1)
Gives name (name_came other) key = (other ≡ name) × (key ≡ 1)
Gives name (call_ended c) key = (c.name ≡ name) × (key ≡ c.key + 1)

-- from an event on, behind which the next call of a name has this key, the name stayed known, and this was told since
pub record IsKnownSince (told : List KeyEvent) (name : List ℕ) (key : ℕ) (since : List KeyEvent) : Type 0 where
  pub from : KeyEvent
  pub before : List KeyEvent
  pub told_is : told ≡ since ++ from ∷ before
  pub gives : Gives name from key
  pub stays : StaysKnown name since

-- The name is known, and its next call has this key: from whichever event one counts, one more for each call since.
pub record IsNext (told : List KeyEvent) (name : List ℕ) (next : ℕ) : Type 0 where
  pub known : (key : ℕ) × (since : List KeyEvent) × IsKnownSince told name key since
  pub counted : (key : ℕ) (since : List KeyEvent) → IsKnownSince told name key since →
      next ≡ key + calls_of name since

-- A key stands once: of two calls of a name between which it stayed known the later one has the greater key.
abbrev pub StandsOnce : List KeyEvent → Type 0
StandsOnce told = (newer between older : List KeyEvent) (c d : KeyedCall) →
    told ≡ newer ++ call_ended c ∷ (between ++ call_ended d ∷ older) → d.name ≡ c.name → StaysKnown c.name between →
    d.key < c.key

-- Each key stands once. Keys are consecutive: each call has the one that was the next before it; and the next one of
-- each client now is the one behind them.
pub record AreKeyed (told : List KeyEvent) (v : Guests) : Type 0 where
  pub once : StandsOnce told
  pub calls : (newer older : List KeyEvent) (c : KeyedCall) → told ≡ newer ++ call_ended c ∷ older →
      IsNext older c.name c.key
  pub now : (place : ℕ) (g : Guest) → slice_get v.guests place ≡ Some g → IsNext told g.name g.keys.next

-- So it is over all epochs that are read of texts, where the clients of each were known in the one before it.
abbrev pub KeysStandOnce : Type 0
KeysStandOnce = (o : ObjectForm) (e : ReadEpoch o) (earlier : List (ReadEpoch o)) → AreKnownOn o e earlier →
    AreKeyed (all_told o e earlier) e.came.guests

-- the call of a name that has this key stands in what was told, and the name stayed known since
pub record IsTold (told : List KeyEvent) (name : List ℕ) (key : ℕ) (call : RememberedCall) : Type 0 where
  pub newer : List KeyEvent
  pub older : List KeyEvent
  pub told_is : told ≡ newer ++ call_ended (record { name = name; key = key; call = call }) ∷ older
  pub stays : StaysKnown name newer

-- a front has the line of this call of a name under this key
pub record IsKeptLine (clients : List NamedClient) (kept : List KeptCall) (name : List ℕ) (key : ℕ) (c : RememberedCall) : Type 0 where
  pub client : NamedClient
  pub among : IsAmong clients name client
  pub line : KeptCall
  pub place : ℕ
  pub there : slice_get kept place ≡ Some line
  pub is_of : line.session ≡ client.session
  pub key_is : line.key ≡ key
  pub same : IsSameCall line c

-- what a client is told of a call that it repeats: the call of the history that has its key; or, where that ended
-- before, what this front has of it
abbrev pub IsRememberedUnder : List KeyEvent → Opening → List ℕ → ℕ → RememberedCall → Type 0
IsRememberedUnder told f name key call = IsTold told name key call ⊎ IsKeptLine f.clients f.kept name key call

-- Of each key that a client of now repeats so it is, by the front of the newest epoch.
abbrev pub RepeatsAreTold : Type 0
RepeatsAreTold =
    (o : ObjectForm) (e : ReadEpoch o) (earlier : List (ReadEpoch o)) → AreKnownOn o e earlier →
    (place : ℕ) (g : Guest) (key k : ℕ) (a : Asked) → slice_get e.came.guests.guests place ≡ Some g →
    Judges g.keys key a (Repeat k) → (call : RememberedCall) × (slice_get g.keys.kept k ≡ Some call) × (call.asked ≡ a)
    × IsRememberedUnder (all_told o e earlier) e.is.front g.name key call

-- the first of these epochs, which have the newest first
abbrev pub oldest : (o : ObjectForm) → ReadEpoch o → List (ReadEpoch o) → ReadEpoch o
oldest o e [] = e
oldest o e (d ∷ earlier) = oldest o d earlier

-- So it is by the front of the oldest epoch: a call that ended in any epoch since is told as it stands in the history.
abbrev pub RepeatsStand : Type 0
RepeatsStand =
    (o : ObjectForm) (e : ReadEpoch o) (earlier : List (ReadEpoch o)) → AreKnownOn o e earlier →
    (place : ℕ) (g : Guest) (key k : ℕ) (a : Asked) → slice_get e.came.guests.guests place ≡ Some g →
    Judges g.keys key a (Repeat k) → (call : RememberedCall) × (slice_get g.keys.kept k ≡ Some call) × (call.asked ≡ a)
    × IsRememberedUnder (all_told o e earlier) (oldest o e earlier).is.front g.name key call

-- the end of a call under a key, where it was not cancelled
abbrev pub end_told : ObjectForm → Asked → Option Reply → List End
end_told o call None = []
end_told o call (Some reply) =
    record { body = body_at o call.operation; arguments = call.arguments; reply = reply } ∷ []

-- the ends of all calls under keys, the oldest first
abbrev pub ends_told : ObjectForm → List KeyEvent → List End
ends_told o [] = []
ends_told o (epoch_began clients ∷ told) = ends_told o told
ends_told o (name_came name ∷ told) = ends_told o told
ends_told o (call_ended c ∷ told) = ends_told o told ++ end_told o c.call.asked c.call.reply

-- these stand among those, in the same order
pub data AreWithin : List End → List End → Type 0 where
  none_within : AreWithin [] []
  one_within : {x : End} {few all : List End} → AreWithin few all → AreWithin (x ∷ few) (x ∷ all)
  one_beside : {x : End} {few all : List End} → AreWithin few all → AreWithin few (x ∷ all)

-- what texts tell, the newest first: epochs of the object that are sound, and in whose one history keys stand once
pub record TellKeys (o : ObjectForm) (text : List ℕ) (texts : List (List ℕ)) : Type 0 where
  pub last : ReadEpoch o
  pub earlier : List (ReadEpoch o)
  pub told : texts_of o (last ∷ earlier) ≡ text ∷ texts
  pub epochs : AreEpochs o last.epoch (epochs_of o earlier)
  pub sound : IsSound o last.epoch (epochs_of o earlier)
  pub known : AreKnownOn o last earlier
  pub within : AreWithin (ends_told o (all_told o last earlier)) (all_ends o last.epoch (epochs_of o earlier))
  pub keyed : AreKeyed (all_told o last earlier) last.came.guests

-- So do texts that were found to be those of epochs each of which may follow the one before it.
abbrev pub TextsTellKeys : Type 0
TextsTellKeys =
    (o : ObjectForm) (text : List ℕ) (texts : List (List ℕ)) (all : Epochs) → chains.AreEpochs o (text ∷ texts) all →
    TellKeys o text texts
