-- What an object says of the number of a call, and of a call under a key.
use Rattle.std.specs.Prelude.{◌≡◌, ℕ, ◌+◌, ◌-◌, ◌^◌, List, min, Option, Some, None, slice_get}
use Rattle.value_core.specs.declared.datum.Datum.{Datum}
use Rattle.apply_core.specs.declared.reply.Reply.{Reply}
use Rattle.word_core.specs.Events.{Called}
use Rattle.guest_core.specs.declared.guest.Guest.{Guest}
use Rattle.guest_core.specs.declared.kept.Asked.{Asked}
use Rattle.guest_core.specs.declared.kept.RememberedCall.{RememberedCall}
use Rattle.guest_core.specs.Guests.{IsNamed}
use Rattle.guest_core.specs.Keys.{asks, HasKey}
use Rattle.live_core.specs.declared.hosted.KeyState.{KeyState}
use Rattle.live_core.specs.declared.hosted.KeyState.TheVariants.{New, Repeated, Cancelled, Waits, Refused}
use Rattle.live_core.specs.Scene.{Scene, told_of}

-- a call of the session waits, and this number is told of it
pub record WaitsAs (s : Scene) (session told : ℕ) : Type 0 where
  pub place : ℕ
  pub call : Called
  pub there : slice_get s.hall.waiting place ≡ Some call
  pub of : call.session ≡ session
  pub told_is : told_of s call.number ≡ told

-- at a place among the calls that are remembered of the client of a session is one of this number, which ended so; it
-- was cancelled where there is no reply
pub record Remembers (s : Scene) (session place told : ℕ) (reply : Option Reply) : Type 0 where
  pub row : ℕ
  pub guest : Guest
  pub by : IsNamed s.guests session row guest
  pub call : RememberedCall
  pub there : slice_get guest.keys.kept place ≡ Some call
  pub told_is : call.told ≡ told
  pub reply_is : call.reply ≡ reply

-- the same, of a call of this key that asked for this
pub record Repeats (s : Scene) (session key : ℕ) (a : Asked) (told : ℕ) (reply : Option Reply) : Type 0 where
  pub row : ℕ
  pub guest : Guest
  pub by : IsNamed s.guests session row guest
  pub place : ℕ
  pub call : RememberedCall
  pub has : HasKey guest.keys key place call
  pub asked : call.asked ≡ a
  pub told_is : call.told ≡ told
  pub reply_is : call.reply ≡ reply

-- the key is that of the next call of the client of a session, which asked for this call, or for none, that has not ended
pub record IsNext (s : Scene) (session key : ℕ) (waits : Option Asked) : Type 0 where
  pub row : ℕ
  pub guest : Guest
  pub by : IsNamed s.guests session row guest
  pub key_is : key ≡ guest.keys.next
  pub waits_is : guest.keys.asked ≡ waits

-- what is said of a call that waits
abbrev pub SaysWaits : Scene → ℕ → KeyState → Type 0
SaysWaits s session (Waits told) = WaitsAs s session told
SaysWaits s session (Refused fault) = Unit {0}
SaysWaits s session New = ⊥
SaysWaits s session (Repeated told reply) = ⊥
SaysWaits s session (Cancelled told) = ⊥

-- what is said of a call that is remembered
abbrev pub SaysKept : Scene → ℕ → ℕ → KeyState → Type 0
SaysKept s session place (Repeated told reply) = Remembers s session place told (Some reply)
SaysKept s session place (Cancelled told) = Remembers s session place told None
SaysKept s session place (Refused fault) = Unit {0}
SaysKept s session place New = ⊥
SaysKept s session place (Waits told) = ⊥

-- What a key says of a call of a session that has a name.
abbrev pub SaysKey : Scene → ℕ → ℕ → Asked → KeyState → Type 0
SaysKey s session key a New = IsNext s session key None
SaysKey s session key a (Repeated told reply) = Repeats s session key a told (Some reply)
SaysKey s session key a (Cancelled told) = Repeats s session key a told None
SaysKey s session key a (Waits told) = IsNext s session key (Some a) × WaitsAs s session told
SaysKey s session key a (Refused fault) = Unit {0}

-- what it says of one of a session that has none, and made so many calls: that it is the next one, or nothing
abbrev pub SaysCount : ℕ → ℕ → KeyState → Type 0
SaysCount calls key New = key ≡ min (calls + 1) (2 ^ 64 - 1)
SaysCount calls key (Refused fault) = Unit {0}
SaysCount calls key (Repeated told reply) = ⊥
SaysCount calls key (Cancelled told) = ⊥
SaysCount calls key (Waits told) = ⊥

-- the operation, or a number that no operation has
abbrev pub operation_or : Option ℕ → ℕ
operation_or None = 65535
operation_or (Some operation) = operation

-- What a key says of a call.
abbrev pub Says : Scene → Option ℕ → ℕ → ℕ → Option ℕ → List Datum → KeyState → Type 0
Says s (Some session) calls key operation arguments keyed =
    SaysKey s session key (asks (operation_or operation) arguments) keyed
Says s None calls key operation arguments keyed = SaysCount calls key keyed
