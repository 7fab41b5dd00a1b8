-- The object at a place.
use Rattle.std.proofs.Common.{◌≡◌, ◌≢◌, ◌∙◌, ap, sym, subst, refl, ℕ, zero, suc, ◌<◌, inl, List, [], ◌∷◌, ◌++◌, length}
use Rattle.std.specs.Prelude.{Bool, Option, Some, None, Result, Ok, Err, slice_get, slice_set, slice_index_or}
use Rattle.std.proofs.lemmas.Option.{same_Some, slice_get-get_or}
use Rattle.value_core.specs.declared.datum.Datum.{Datum}
use Rattle.guest_core.specs.declared.answer.SubmitFault.{SubmitFault}
use Rattle.guest_core.specs.declared.guests.Entered.{Entered}
use Rattle.guest_core.specs.declared.guests.EnterFault.{EnterFault}
use Rattle.guest_core.specs.declared.guests.EnterFault.TheVariants.{InUse, Full, Memory}
use Rattle.guest_core.specs.declared.seats.SeatHolder.TheVariants.{Named, Nameless}
use Rattle.guest_core.specs.Entering.{Enters, Leaves}
use Rattle.guest_core.specs.Guests.{Guests, HasNoName, with_seat}
use Rattle.guest_core.specs.Seats.{IsLeastFree}
use Rattle.live_core.specs.declared.live.Taken.{Taken}
use Rattle.live_core.specs.Calls.{Calls, Cancels, CancelsSome}
use Rattle.live_core.specs.Hall.{Every}
use Rattle.word_core.specs.Events.{Called}
use Rattle.live_core.specs.Scene.{Scene, with_guests}
use Rattle.live_core.specs.HostedSteps.{Comes}
use Rattle.live_core.specs.HostedLines.{entered_lines}
use Rattle.live_core.specs.Lines.{all_lines}
use Rattle.decl_core.specs.ObjectMap.{object_of}
use Rattle.client_core.specs.Turns.{HasNameAt}
use Rattle.table_core.specs.Objects.{EntersAt, SeatsAt, LeavesAt, CallsAt, CancelsAt}

-- the object at a place
pub at_place : (scenes : List Scene) (at : ℕ) (object : Scene) → at < length scenes → object ≡ slice_index_or scenes at object → slice_get scenes at ≡ Some object
at_place scenes at object within is = slice_get-get_or scenes at object within ∙ ap Some (sym is)

-- an object that is as it was
pub set_same : (scenes : List Scene) (at : ℕ) (old new : Scene) → slice_get scenes at ≡ Some old → new ≡ old → slice_set scenes at new ≡ scenes
set_same [] at old new there is = refl
set_same (s ∷ scenes) zero old new there is = ap (λ x. x ∷ scenes) (is ∙ sym (same_Some s old there))
set_same (s ∷ scenes) (suc at) old new there is = ap (λ l. s ∷ l) (set_same scenes at old new there is)

fault_stays : (old : Scene) (name : List ℕ) (now : ℕ) (fault : EnterFault) (guests : Guests) → Enters old.guests name now (Err fault) guests → guests ≡ old.guests
fault_stays old name now InUse guests is = is.1
fault_stays old name now Full guests is = is.2
fault_stays old name now Memory guests is = is.2

-- a client comes
pub entered : (scenes : List Scene) (at : ℕ) (old new : Scene) (name : List ℕ) (now : ℕ) (r : Result Entered EnterFault) (before line : List ℕ) →
    slice_get scenes at ≡ Some old → before ≡ [] → Comes old name now before r line new → EntersAt scenes at name now (Some r) line (slice_set scenes at new)
entered scenes at old new name now (Ok came) before line there none c = record {
  object = old;
  there = there;
  guests = new.guests;
  is_name = c.is_name;
  enters = c.enters;
  told = c.added ∙ ap (λ (l : List ℕ). l ++ entered_lines name (Ok came)) none;
  left = ap (λ s. slice_set scenes at s) c.left;
}
entered scenes at old new name now (Err fault) before line there none c =
    set_same scenes at old new there (c.left ∙ ap (λ g. with_guests old g) (fault_stays old name now fault new.guests c.enters))

-- a session gets a number
pub seated : (scenes : List Scene) (at session : ℕ) (old new : Scene) → slice_get scenes at ≡ Some old → IsLeastFree old.guests.seats session →
    new ≡ with_guests old (with_seat old.guests session Nameless) → SeatsAt scenes at session (slice_set scenes at new)
seated scenes at session old new there free is = record { object = old; there = there; free = free; left = ap (λ s. slice_set scenes at s) is }

-- a session leaves
pub left_it : (scenes : List Scene) (at session now : ℕ) (old new : Scene) (was_here : Bool) → slice_get scenes at ≡ Some old →
    Leaves old.guests session now was_here new.guests → new ≡ with_guests old new.guests → LeavesAt scenes at session now (slice_set scenes at new)
left_it scenes at session now old new was_here there leaves is =
    inl (record { object = old; there = there; was_here = was_here; guests = new.guests; leaves = leaves; left = ap (λ s. slice_set scenes at s) is })

-- a call is made, or not
pub called : (scenes : List Scene) (at session operation : ℕ) (arguments : List Datum) (old new : Scene) (r : Result Taken SubmitFault) (before line : List ℕ) →
    slice_get scenes at ≡ Some old → before ≡ [] → Calls old session operation arguments before r line new →
    CallsAt scenes at session operation arguments r line (slice_set scenes at new)
called scenes at session operation arguments old new (Ok taken) before line there none c =
    record { before = old; there = there; after = new; does = c.0; told = c.1 ∙ ap (λ (l : List ℕ). l ++ all_lines (object_of old.hall.object) taken.ran.items) none; left = refl }
called scenes at session operation arguments old new (Err fault) before line there none c = set_same scenes at old new there c.0

-- a waiting call is cancelled, or none waits
pub cancelled : (scenes : List Scene) (at session : ℕ) (old new : Scene) (told : Option ℕ) (before line : List ℕ) → slice_get scenes at ≡ Some old →
    before ≡ [] → CancelsSome old session before told line new → CancelsAt scenes at session told line (slice_set scenes at new)
cancelled scenes at session old new (Some told) before line there none c =
    record { object = old; there = there; after = new; cancels = subst (λ (l : List ℕ). Cancels old session told l line new) none c; left = refl }
cancelled scenes at session old new None before line there none c =
    (set_same scenes at old new there c.0, λ object is. subst (λ (o : Scene). Every (λ (d : Called). d.session ≢ session) o.hall.waiting) (same_Some old object (sym there ∙ is)) c.2)

-- no client that has a name has this session of it
pub no_name : (scenes : List Scene) (at session : ℕ) (object : Scene) → slice_get scenes at ≡ Some object → HasNoName object.guests session → HasNameAt scenes at session → ⊥
no_name scenes at session object here none (scene, there, (p, g, is)) =
    none p (subst (λ (s : Scene). slice_get s.guests.seats session ≡ Some (Named p)) (same_Some scene object (sym there ∙ here)) is.seat)
