-- Parts of what is done for one that asks.
use Rattle.std.specs.Prelude.{◌≡◌, ◌⊎◌, ℕ, false, List, [], ◌∷◌, ◌++◌, Option, Some, None, Result, Ok, Err, slice_get}
use Rattle.std.specs.Global.{Vec}
use Rattle.std.specs.declared.alloc.AllocError.{AllocError}
use Rattle.path_tree.specs.Identifier.{IsName}
use Rattle.value_core.specs.declared.datum.Datum.{Datum}
use Rattle.decl_core.specs.ObjectMap.{object_of}
use Rattle.word_core.specs.Answers.{cancelled_line}
use Rattle.session_text.specs.Lines.{accepted_text, cancel_name, withdrawn_text}
use Rattle.guest_core.specs.declared.answer.Cancelled.TheVariants as answers
use Rattle.guest_core.specs.declared.answer.SubmitFault.{SubmitFault}
use Rattle.live_core.specs.declared.call.Ran.{Ran}
use Rattle.live_core.specs.declared.live.Taken.{Taken}
use Rattle.live_core.specs.Lines.{all_lines}
use Rattle.guest_core.specs.declared.guests.Entered.{Entered}
use Rattle.guest_core.specs.declared.guests.EnterFault.{EnterFault}
use Rattle.guest_core.specs.Entering.{Enters}
use Rattle.guest_core.specs.Guests.{Guests}
use Rattle.live_core.specs.declared.hosted.KeyState.{KeyState}
use Rattle.live_core.specs.declared.hosted.KeyState.TheVariants as keys
use Rattle.live_core.specs.Calls.{Does, Cancels}
use Rattle.live_core.specs.Keys.{Says}
use Rattle.live_core.specs.HostedLines.{entered_lines}
use Rattle.live_core.specs.Scene.{Scene, told_of, with_guests}
use Rattle.client_core.specs.declared.client.OpenObject.{OpenObject}
use Rattle.keep_loop.specs.Posts.{Tells}
use Rattle.keep_loop.specs.declared.post.Post.{Post}
use Rattle.client_core.specs.State.{State, opening, changed, with_object, told_to, counted, session_by}
use Rattle.client_core.specs.Deeds.{Texts, Deed, OnlyTold}
use Rattle.client_core.specs.Custody.{Custody, IsOwed, not_held_text}
use Rattle.client_core.specs.Asked.{IsRefused, Sits, Submits, AllEnd, Ends, Follows, LetsGo, IsNotCancelled, LeavesObject, MayCall, NoneLeaves, keyed_text}
use Rattle.client_core.specs.Gone.{Frees, SeatsOne}
use Rattle.client_core.specs.Turns.{NoneWaits}

-- the one at a place is told this, and has opened that
pub record TellsOpened (place : ℕ) (text : List ℕ) (opened : OpenObject) (old : State) (said added : Texts) (new : State) : Type 0 where
  pub told : said ≡ told_to old.peers place text
  pub lines : added ≡ []
  pub left : new ≡ changed old place (opening opened)

-- one object goes on, which adds this, and nothing is told
pub record Adds (at : ℕ) (after : Scene) (line : List ℕ) (before : Post) (old : State) (behind : Post) (new : State) : Type 0 where
  pub tells : Tells before behind [] ((at, line) ∷ [])
  pub left : new ≡ with_object old at after

-- a post is as it was, and a state
pub record Stays (before : Post) (old : State) (after : Post) (new : State) : Type 0 where
  pub tells : Tells before after [] []
  pub left : new ≡ old

-- a client has come to an object
pub record HasCome (at : ℕ) (client : List ℕ) (entered : Entered) (before : Post) (old : State) (after : Post) (new : State) : Type 0 where
  pub object : Scene
  pub there : slice_get old.objects at ≡ Some object
  pub now : ℕ
  pub guests : Guests
  pub is_name : IsName client
  pub enters : Enters object.guests client now (Ok entered) guests
  pub adds : Adds at (with_guests object guests) (entered_lines client (Ok entered)) before old after new

abbrev pub ComesAt : ℕ → List ℕ → Option (Result Entered EnterFault) → Post → State → Post → State → Type 0
ComesAt at client (Some (Ok entered)) before old after new = HasCome at client entered before old after new
ComesAt at client (Some (Err fault)) before old after new = Stays before old after new
ComesAt at client None before old after new = Stays before old after new

-- a session leaves, or there is none
abbrev pub LeavesOf : ℕ → State → State → Type 0
LeavesOf place old new = LeavesObject place old new ⊎ (NoneLeaves old place × (new ≡ old))

-- a call was made of an object
pub record HasMade (seat : OpenObject) (operation : ℕ) (arguments : List Datum) (taken : Taken) (before : Post) (old : State) (behind : Post) (new : State) : Type 0 where
  pub object : Scene
  pub there : slice_get old.objects seat.object ≡ Some object
  pub after : Scene
  pub does : Does object seat.session operation arguments taken after
  pub adds : Adds seat.object after (all_lines (object_of object.hall.object) taken.ran.items) before old behind new

abbrev pub MakesAt : OpenObject → ℕ → List Datum → Result Taken SubmitFault → Post → State → Post → State → Type 0
MakesAt seat operation arguments (Ok taken) before old after new = HasMade seat operation arguments taken before old after new
MakesAt seat operation arguments (Err fault) before old after new = Stays before old after new

-- it is told that a call was taken, and each that ran that it ended
pub record TellsTaken (place : ℕ) (seat : OpenObject) (taken : Taken) (object : Scene) (old : State) (said added : Texts) (new : State) : Type 0 where
  pub ended : Texts
  pub told : said ≡ told_to old.peers place (accepted_text (told_of object taken.number)) ++ ended
  pub lines : added ≡ []
  pub ends : AllEnd seat.object object taken.ran.items (changed old place (opening (counted (told_of object taken.number) seat))) ended [] new

-- and what is held follows
pub record TellsAll (place : ℕ) (seat : OpenObject) (taken : Taken) (object : Scene) (old : State) (said added : Texts) (new : State) : Type 0 where
  pub mid : State
  pub tells : TellsTaken place seat taken object old said added mid
  pub follows : Follows seat.object object taken.ran.items mid new

-- a call is made, or refused
abbrev pub SubmitsOr : ℕ → OpenObject → ℕ → List Datum → Deed
SubmitsOr place seat operation arguments old said added new =
    Submits place seat operation arguments old said added new ⊎ IsRefused place old said added new

-- the call of one that has opened an object is made, or refused
pub record MakesOne (place : ℕ) (opened : OpenObject) (operation : Option ℕ) (arguments : List Datum) (old : State) (said added : Texts) (new : State) : Type 0 where
  pub seat : OpenObject
  pub mid : State
  pub sits : Sits place old opened seat mid
  pub asked : ℕ
  pub operation_is : operation ≡ Some asked
  pub submits : Submits place seat asked arguments mid said added new

pub record RefusesOne (place : ℕ) (opened : OpenObject) (old : State) (said added : Texts) (new : State) : Type 0 where
  pub seat : OpenObject
  pub mid : State
  pub sits : Sits place old opened seat mid
  pub refused : IsRefused place mid said added new

abbrev pub MakesCall : ℕ → OpenObject → Option ℕ → List Datum → Deed
MakesCall place opened operation arguments old said added new =
    MakesOne place opened operation arguments old said added new ⊎ RefusesOne place opened old said added new

-- it is told that it does not hold what a call would end, or why the call is refused otherwise
abbrev pub TellsUnheld : ℕ → Deed
TellsUnheld place old said added new = OnlyTold place not_held_text old said added new ⊎ IsRefused place old said added new

-- it may make a call, by what is held, where that is of an operation
abbrev pub MayAsk : State → OpenObject → Option ℕ → List Datum → Type 0
MayAsk s opened operation arguments = (asked : ℕ) → operation ≡ Some asked → MayCall s opened asked arguments

-- it may not
abbrev pub MayNotAsk : State → OpenObject → Option ℕ → List Datum → Type 0
MayNotAsk s opened operation arguments = (asked : ℕ) × (operation ≡ Some asked) × (MayCall s opened asked arguments → ⊥)

-- the call of one that has opened an object is made, or refused, for what is held too
abbrev pub AsksCall : ℕ → OpenObject → Option ℕ → List Datum → Deed
AsksCall place opened operation arguments old said added new =
    (MayAsk old opened operation arguments × MakesCall place opened operation arguments old said added new)
    ⊎ (MayNotAsk old opened operation arguments × TellsUnheld place old said added new)

-- a session of the object at a place, which no connection has
abbrev pub bare_seat : ℕ → ℕ → OpenObject
bare_seat at session = record { object = at; session = session; is_named = false; waits = false; calls = 0; told = 0 }

-- a call is owed for a session, where there is such an object
abbrev pub IsOwedAt : State → ℕ → ℕ → ℕ → List Datum → Type 0
IsOwedAt s at session operation arguments =
    (object : Scene) → slice_get s.objects at ≡ Some object →
    (c : Custody) × (slice_get s.custody at ≡ Some c) × IsOwed (object_of object.hall.object) c session operation arguments

-- each that waits for one that ran is told its end, and what is held follows
pub record EndsAll (at : ℕ) (object : Scene) (ran : List Ran) (old : State) (said added : Texts) (new : State) : Type 0 where
  pub mid : State
  pub ends : AllEnd at object ran old said [] mid
  pub lines : added ≡ []
  pub follows : Follows at object ran mid new

-- something is known of what is held of the object at a place
abbrev pub HasCustody : State → ℕ → Type 0
HasCustody s at = (c : Custody) × (slice_get s.custody at ≡ Some c)

-- a session that no connection has gets a number, or nothing is done
abbrev pub SeatsOr : ℕ → State → State → Type 0
SeatsOr at old new = ((session : ℕ) × SeatsOne at session old [] [] new) ⊎ (new ≡ old)

-- a session that no connection has leaves, or nothing is done
abbrev pub FreesOr : ℕ → ℕ → State → State → Type 0
FreesOr at session old new = Frees at session old [] [] new ⊎ (new ≡ old)

-- what a key says of a call of the object that was opened
abbrev pub SaysOf : OpenObject → ℕ → Option ℕ → List Datum → KeyState → State → Type 0
SaysOf opened key operation arguments keyed s =
    (object : Scene) → slice_get s.objects opened.object ≡ Some object → Says object (session_by opened) opened.calls key operation arguments keyed

abbrev pub UnderKey : ℕ → OpenObject → ℕ → Option ℕ → List Datum → Deed
UnderKey place opened key operation arguments old said added new =
    (SaysOf opened key operation arguments keys.New old × AsksCall place opened operation arguments old said added new)
    ⊎ (((keyed : KeyState) × SaysOf opened key operation arguments keyed old × (keyed ≡ keys.New → ⊥)
    × OnlyTold place (keyed_text keyed) old said added new)
    ⊎ IsRefused place old said added new)

-- the waiting call of a session was cancelled, or none waits
pub record HasLetGo (at session number : ℕ) (before : Post) (old : State) (behind : Post) (new : State) : Type 0 where
  pub object : Scene
  pub there : slice_get old.objects at ≡ Some object
  pub after : Scene
  pub line : List ℕ
  pub cancels : Cancels object session number [] line after
  pub adds : Adds at after line before old behind new

abbrev pub LetsGoAt : ℕ → ℕ → Option ℕ → Post → State → Post → State → Type 0
LetsGoAt at session (Some number) before old after new = HasLetGo at session number before old after new
LetsGoAt at session None before old after new = NoneWaits at session old × Stays before old after new

-- who asked to cancel a call is told so before its client is
pub record TellsCancelled (place at session told number : ℕ) (old : State) (said added : Texts) (new : State) : Type 0 where
  pub ended : Texts
  pub told_is : said ≡ told_to old.peers place (cancelled_line told (cancel_name answers.Cancelled)) ++ ended
  pub lines : added ≡ []
  pub ends : Ends at session number (withdrawn_text number) old ended [] new

-- a call is cancelled, and this is told of it
pub record CancelsNow (place at session told : ℕ) (old : State) (said added : Texts) (new : State) : Type 0 where
  pub number : ℕ
  pub ended : Texts
  pub told_is : said ≡ told_to old.peers place (cancelled_line told (cancel_name answers.Cancelled)) ++ ended
  pub lets_go : LetsGo at session number old ended added new

abbrev pub CancelsOne : ℕ → ℕ → ℕ → ℕ → Deed
CancelsOne place at session told old said added new =
    CancelsNow place at session told old said added new
    ⊎ (IsNotCancelled place told old said added new ⊎ IsRefused place old said added new)

-- the one at a place is told this, or is refused
abbrev pub ShowsText : ℕ → List ℕ → Deed
ShowsText place text old said added new = OnlyTold place text old said added new ⊎ IsRefused place old said added new

-- the same of a text that memory was there for
abbrev pub Shows : ℕ → Result (Vec ℕ) AllocError → Deed
Shows place (Ok text) = ShowsText place text.items
Shows place (Err e) = IsRefused place
