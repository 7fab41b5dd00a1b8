-- What a call does to an object and to what is known of its client.
use Rattle.std.specs.Prelude.{◌≡◌, ◌≢◌, ℕ, ◌+◌, List, [], ◌∷◌, ◌++◌, All, Bool, Option, Some, None, Result, Ok, Err, if◌then◌else◌}
use Rattle.std.specs.Prelude.{nat_lt, slice_get}
use Rattle.value_core.specs.declared.datum.Datum.{Datum}
use Rattle.value_core.specs.Datum.{IsDatum}
use Rattle.apply_core.specs.declared.reply.Reply.{Reply}
use Rattle.apply_core.specs.declared.reply.Reply.TheVariants.{Done, Refused, Failed}
use Rattle.decl_core.specs.ObjectMap.{object_of}
use Rattle.word_core.specs.Words.{line_of}
use Rattle.word_core.specs.Events.{Called}
use Rattle.guest_core.specs.declared.answer.SubmitFault.{SubmitFault}
use Rattle.live_core.specs.declared.call.Ran.{Ran}
use Rattle.live_core.specs.declared.live.Taken.{Taken}
use Rattle.live_core.specs.Answers.{asked, IsTaken}
use Rattle.live_core.specs.Hall.{Told, Every, IsHeld}
use Rattle.live_core.specs.Lines.{all_lines}
use Rattle.live_core.specs.Settles.{with_all}
use Rattle.live_core.specs.Steps as hall
use Rattle.guest_core.specs.declared.guest.Guest.{Guest}
use Rattle.guest_core.specs.Guests.{Guests, IsNamed, HasNoName}
use Rattle.guest_core.specs.Keys.{asks, Asks, Ends}
use Rattle.guest_core.specs.Steps.{AtName}
use Rattle.live_core.specs.HostedLines.{cancel_words}
use Rattle.live_core.specs.Scene.{Scene, told_of, with_guests}

-- a session as its clients know it: none has a number above the greatest of 16 bits
abbrev pub seat_of : ℕ → ℕ
seat_of session = if nat_lt session 65536 then session else 0

-- each call is told by the number by which it was told, and it is the same epoch
pub record TellsSame (old new : Scene) : Type 0 where
  pub past : new.past ≡ old.past
  pub carried : new.carried ≡ old.carried
  pub base : new.base ≡ old.base
  pub epoch : new.epoch ≡ old.epoch
  pub source : new.source ≡ old.source

-- a call ran, and its client, where it has a name, remembers it by the number that it was told
pub record IsRemembered (s : Scene) (old : Guests) (r : Ran) (new : Guests) : Type 0 where
  pub was_asked : Bool
  pub remembers : AtName old (seat_of r.call.session) (λ keys after. Ends keys (told_of s r.call.number) (Some r.reply) was_asked after) new

-- these calls ran, and each is remembered
abbrev pub AreRemembered : Scene → Guests → List Ran → Guests → Type 0
AreRemembered s old [] new = new ≡ old
AreRemembered s old (r ∷ all) new = (mid : Guests) × IsRemembered s old r mid × AreRemembered s mid all new

-- a session asks a call
abbrev pub IsAsked : Guests → ℕ → ℕ → List Datum → Guests → Type 0
IsAsked old session operation arguments new =
    AtName old session (λ keys after. Asks keys (asks operation arguments) (Ok tt) after) new

-- A call is taken: its client asked it, and these ran, it, if it may start, and then those that waited and may. It has the
-- next number.
pub record Takes (old : Scene) (session operation : ℕ) (arguments : List Datum) (a : Taken) (new : Scene) : Type 0 where
  pub taken : IsTaken old.hall (asked old.hall session operation arguments)
  pub number : a.number ≡ old.hall.given + 1
  pub same : hall.IsSame (hall.joined old.hall (asked old.hall session operation arguments)) new.hall
  pub settles : (t : Told) → IsHeld old.hall t →
      hall.SettlesTo (hall.joined old.hall (asked old.hall session operation arguments)) t a.ran.items new.hall
  pub held : (t : Told) → IsHeld old.hall t → IsHeld new.hall (with_all t a.ran.items)
  pub asked_by : IsAsked old.guests session operation arguments new.guests
  pub given : new.given ≡ a.number
  pub tells : TellsSame old new

-- what a function replied is an integer or a text that can be written
abbrev pub RepliesDatum : Reply → Type 0
RepliesDatum (Done None) = Unit {0}
RepliesDatum (Done (Some datum)) = IsDatum datum
RepliesDatum (Refused word) = Unit {0}
RepliesDatum (Failed failure) = Unit {0}

-- the same, and each that ran is remembered; what was asked with and what functions replied can be written
pub record Does (old : Scene) (session operation : ℕ) (arguments : List Datum) (a : Taken) (new : Scene) : Type 0 where
  pub mid : Scene
  pub takes : Takes old session operation arguments a mid
  pub values : All IsDatum arguments
  pub replies : Every (λ (r : Ran). RepliesDatum r.reply) a.ran.items
  pub remembered : AreRemembered mid mid.guests a.ran.items new.guests
  pub left : new ≡ with_guests mid new.guests

-- What it answers to a call that is to be made, and the lines that it adds: those of all that ran. A fault changes nothing.
abbrev pub Calls : Scene → ℕ → ℕ → List Datum → List ℕ → Result Taken SubmitFault → List ℕ → Scene → Type 0
Calls old session operation arguments before (Ok a) after new =
    Does old session operation arguments a new × (after ≡ before ++ all_lines (object_of old.hall.object) a.ran.items)
Calls old session operation arguments before (Err fault) after new = (new ≡ old) × (after ≡ before)

-- the call of a session waits no more, and its client, where it has a name, remembers that it was cancelled
pub record LetsGo (old : Scene) (session told : ℕ) (call : Called) (new : Scene) : Type 0 where
  pub of : call.session ≡ session
  pub left : hall.Leaves old.hall call new.hall
  pub held : (t : Told) → IsHeld old.hall t → IsHeld new.hall t
  pub was_asked : Bool
  pub remembers : AtName old.guests session (λ keys after. Ends keys told None was_asked after) new.guests
  pub given : new.given ≡ old.given
  pub tells : TellsSame old new

-- the line of a cancelled call, where its client has a name
pub record IsCancelLine (s : Scene) (session : ℕ) (call : Called) (lines : List ℕ) : Type 0 where
  pub named : (p : ℕ) (g : Guest) → IsNamed s.guests session p g →
      lines ≡ line_of (cancel_words (object_of s.hall.object) call)
  pub nameless : HasNoName s.guests session → lines ≡ []

-- the call of a session that waits, the number by which it is told, and its line, which is added where its client has a name
abbrev pub TellsCancel : Scene → ℕ → List ℕ → Option (ℕ × ℕ) → List ℕ → Type 0
TellsCancel s session before (Some found) after =
    (call : Called) × ((k : ℕ) × (slice_get s.hall.waiting k ≡ Some call)) × (call.session ≡ session)
    × (found.0 ≡ told_of s call.number) × ((lines : List ℕ) × (after ≡ before ++ lines) × IsCancelLine s session call lines)
TellsCancel s session before None after =
    (after ≡ before) × Every (λ (c : Called). c.session ≢ session) s.hall.waiting

-- the waiting call of a session is cancelled: it is told by its number, and its line is added
pub record Cancels (old : Scene) (session told : ℕ) (before after : List ℕ) (new : Scene) : Type 0 where
  pub call : Called
  pub lets_go : LetsGo old session told call new
  pub lines : List ℕ
  pub added : after ≡ before ++ lines
  pub told_is : (t : Told) → IsHeld old.hall t → told ≡ told_of old call.number
  pub line : (t : Told) → IsHeld old.hall t → IsCancelLine old session call lines

-- what it answers to a cancel, and what that adds: nothing where no call of the session waits
abbrev pub CancelsSome : Scene → ℕ → List ℕ → Option ℕ → List ℕ → Scene → Type 0
CancelsSome old session before (Some told) after new = Cancels old session told before after new
CancelsSome old session before None after new =
    (new ≡ old) × (after ≡ before) × Every (λ (c : Called). c.session ≢ session) old.hall.waiting
