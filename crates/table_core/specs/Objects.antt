-- What is done with the object at a place of a list.
use Rattle.std.specs.Prelude.{◌≡◌, ◌⊎◌, ℕ, List, [], Option, Some, None, Result, Ok, Err, Bool, IfSome, slice_get, slice_set}
use Rattle.path_tree.specs.Identifier.{IsName}
use Rattle.value_core.specs.declared.datum.Datum.{Datum}
use Rattle.decl_core.specs.ObjectMap.{object_of}
use Rattle.word_core.specs.Events.{Called}
use Rattle.word_core.specs.Text.{operation_name}
use Rattle.guest_core.specs.declared.answer.SubmitFault.{SubmitFault}
use Rattle.live_core.specs.declared.live.Taken.{Taken}
use Rattle.live_core.specs.Hall.{Every}
use Rattle.live_core.specs.Lines.{all_lines}
use Rattle.guest_core.specs.declared.guests.Entered.{Entered}
use Rattle.guest_core.specs.declared.guests.EnterFault.{EnterFault}
use Rattle.guest_core.specs.declared.seats.SeatHolder.TheVariants.{Nameless}
use Rattle.guest_core.specs.Entering.{Enters, Leaves}
use Rattle.guest_core.specs.Guests.{Guests, SomebodyHas, with_seat}
use Rattle.guest_core.specs.Seats.{IsLeastFree}
use Rattle.live_core.specs.Calls.{Does, Cancels}
use Rattle.live_core.specs.HostedLines.{entered_lines}
use Rattle.live_core.specs.Scene.{Scene, with_guests}

-- the object at this place has this name
pub record IsNamed (objects : List Scene) (at : ℕ) (name : List ℕ) : Type 0 where
  pub object : Scene
  pub there : slice_get objects at ≡ Some object
  pub named : object.hall.object.name ≡ name

-- its operation of this name is this, or none was found
pub record HasOperation (objects : List Scene) (at : ℕ) (operation : Option ℕ) (name : List ℕ) : Type 0 where
  pub object : Scene
  pub there : slice_get objects at ≡ Some object
  pub named : IfSome operation (λ o. operation_name (object_of object.hall.object) o ≡ name)

-- a client has come to it, and the line that tells of it
pub record HasEntered (old : List Scene) (at : ℕ) (client : List ℕ) (now : ℕ) (entered : Entered) (line : List ℕ) (new : List Scene) : Type 0 where
  pub object : Scene
  pub there : slice_get old at ≡ Some object
  pub guests : Guests
  pub is_name : IsName client
  pub enters : Enters object.guests client now (Ok entered) guests
  pub told : line ≡ entered_lines client (Ok entered)
  pub left : new ≡ slice_set old at (with_guests object guests)

abbrev pub EntersAt : List Scene → ℕ → List ℕ → ℕ → Option (Result Entered EnterFault) → List ℕ → List Scene → Type 0
EntersAt old at client now (Some (Ok entered)) line new = HasEntered old at client now entered line new
EntersAt old at client now (Some (Err fault)) line new = new ≡ old
EntersAt old at client now None line new = new ≡ old

-- a session got a number
pub record SeatsAt (old : List Scene) (at session : ℕ) (new : List Scene) : Type 0 where
  pub object : Scene
  pub there : slice_get old at ≡ Some object
  pub free : IsLeastFree object.guests.seats session
  pub left : new ≡ slice_set old at (with_guests object (with_seat object.guests session Nameless))

-- a session has left
pub record HasLeft (old : List Scene) (at session now : ℕ) (new : List Scene) : Type 0 where
  pub object : Scene
  pub there : slice_get old at ≡ Some object
  pub was_here : Bool
  pub guests : Guests
  pub leaves : Leaves object.guests session now was_here guests
  pub left : new ≡ slice_set old at (with_guests object guests)

abbrev pub LeavesAt : List Scene → ℕ → ℕ → ℕ → List Scene → Type 0
LeavesAt old at session now new = HasLeft old at session now new ⊎ ((slice_get old at ≡ None) × (new ≡ old))

-- a call was made, and the lines that tell of all that ran
pub record HasCalled (old : List Scene) (at session operation : ℕ) (arguments : List Datum) (taken : Taken) (line : List ℕ) (new : List Scene) : Type 0 where
  pub before : Scene
  pub there : slice_get old at ≡ Some before
  pub after : Scene
  pub does : Does before session operation arguments taken after
  pub told : line ≡ all_lines (object_of before.hall.object) taken.ran.items
  pub left : new ≡ slice_set old at after

abbrev pub CallsAt : List Scene → ℕ → ℕ → ℕ → List Datum → Result Taken SubmitFault → List ℕ → List Scene → Type 0
CallsAt old at session operation arguments (Ok taken) line new = HasCalled old at session operation arguments taken line new
CallsAt old at session operation arguments (Err fault) line new = new ≡ old

-- the waiting call of a session was cancelled, and the line that tells of it
pub record HasCancelled (old : List Scene) (at session told : ℕ) (line : List ℕ) (new : List Scene) : Type 0 where
  pub object : Scene
  pub there : slice_get old at ≡ Some object
  pub after : Scene
  pub cancels : Cancels object session told [] line after
  pub left : new ≡ slice_set old at after

abbrev pub NoneWaitsAt : List Scene → ℕ → ℕ → Type 0
NoneWaitsAt objects at session = (object : Scene) → slice_get objects at ≡ Some object → Every (λ (c : Called). c.session ≡ session → ⊥) object.hall.waiting

abbrev pub CancelsAt : List Scene → ℕ → ℕ → Option ℕ → List ℕ → List Scene → Type 0
CancelsAt old at session (Some told) line new = HasCancelled old at session told line new
CancelsAt old at session None line new = (new ≡ old) × NoneWaitsAt old at session

-- a client has a session of the object at this place
abbrev pub IsKnownAt : List Scene → ℕ → ℕ → Type 0
IsKnownAt objects at session = (object : Scene) → slice_get objects at ≡ Some object → SomebodyHas object.guests session
