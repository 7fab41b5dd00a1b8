-- What is held of the objects of a table.
use Rattle.std.specs.Prelude.{◌≡◌, ◌≢◌, ℕ, Bool, false, List, [], ◌∷◌, ◌++◌, Option, Some, None, All, codes, slice_get, slice_set}
use Rattle.value_core.specs.declared.datum.Datum.{Datum}
use Rattle.apply_core.specs.declared.reply.Reply.{Reply}
use Rattle.decl_core.specs.ObjectForm.{ObjectForm}
use Rattle.decl_core.specs.ObjectMap.{object_of}
use Rattle.word_core.specs.Events.{Called}
use Rattle.live_core.specs.declared.call.Ran.{Ran}
use Rattle.live_core.specs.Scene.{Scene, told_of}
use Rattle.decl_core.specs.HoldForm.{HoldForm, EveryForm, RulesForm}
use Rattle.guest_core.specs.declared.hold_ends.HoldEnds.TheVariants.{ByDone}
use Rattle.guest_core.specs.Held.{HeldCall, Gives, MayUndo, begun}
use Rattle.guest_core.specs.Places.{IsNewest}
use Rattle.guest_core.specs.Undo.{IsUndoOf}
use Rattle.front_read.specs.HeldLines.{held_text}

-- what an object says of clients that are gone and of time, and what is held of it, the oldest first
pub record Custody : Type 0 where
  pub rules : RulesForm
  pub held : List HeldCall

-- This for each object, by its place; or for none, where no object says something of them.
abbrev pub Custodies : Type 0
Custodies = List Custody

-- the holds of an object; none, where it says nothing of them
abbrev pub holds_by : Option Custody → List HoldForm
holds_by None = []
holds_by (Some c) = c.rules.holds

-- what is held of it, the oldest first
abbrev pub held_by : Option Custody → List HeldCall
held_by None = []
held_by (Some c) = c.held

-- now this is held
abbrev pub holding_now : Custody → List HeldCall → Custody
holding_now c held = record c { held = held }

-- a session holds nothing
abbrev pub HasNone : ℕ → List HeldCall → Type 0
HasNone session held = All (λ (h : HeldCall). h.session ≢ session) held

-- a session holds something
abbrev pub HasSome : ℕ → List HeldCall → Type 0
HasSome session held = (place : ℕ) × (h : HeldCall) × IsNewest session held place h

-- a call, with the number that was told of it
abbrev pub as_told : Scene → Called → Called
as_told object c = record c { number = told_of object c.number }

-- what is held behind a call that ended
abbrev pub HeldBehind : List HoldForm → Called → Reply → List HeldCall → List HeldCall → Type 0
HeldBehind holds c reply old new =
    (left : List HeldCall) × Gives ByDone holds c reply old left × (new ≡ left ++ begun holds c reply)

-- behind calls that ended, one after the other
abbrev pub HeldBehindAll : List HoldForm → Scene → List Ran → List HeldCall → List HeldCall → Type 0
HeldBehindAll holds object [] old new = new ≡ old
HeldBehindAll holds object (r ∷ ran) old new =
    (mid : List HeldCall) × HeldBehind holds (as_told object r.call) r.reply old mid × HeldBehindAll holds object ran mid new

-- calls of the object at a place have ended: what is held of it follows
abbrev pub FollowsIn : Option Custody → ℕ → Scene → List Ran → Custodies → Custodies → Type 0
FollowsIn None at object ran old new = new ≡ old
FollowsIn (Some c) at object ran old new =
    (held : List HeldCall) × HeldBehindAll c.rules.holds object ran c.held held × (new ≡ slice_set old at (holding_now c held))

-- a session may make a call, by what is held: where it would end what not anybody may end, the session holds that
abbrev pub MayMake : Option Custody → ℕ → ℕ → List Datum → Type 0
MayMake None session operation arguments = Unit {0}
MayMake (Some c) session operation arguments = MayUndo c.rules.holds session operation arguments c.held

-- a call is to be made for a session: it gives back the newest that the session holds, or is one that is made again and again
pub data IsOwed (o : ObjectForm) (c : Custody) (session operation : ℕ) (arguments : List Datum) : Type 0 where
  gives_back : (place : ℕ) (h : HeldCall) → IsNewest session c.held place h → IsUndoOf o c.rules.holds h operation arguments →
      IsOwed o c session operation arguments
  again : (place : ℕ) (e : EveryForm) → slice_get c.rules.everies place ≡ Some e → e.op ≡ operation → arguments ≡ [] →
      IsOwed o c session operation arguments

-- a session without a name holds nothing
abbrev pub IsFreeOf : Option Custody → Bool → ℕ → Type 0
IsFreeOf None is_named session = Unit {0}
IsFreeOf (Some c) is_named session = is_named ≡ false → HasNone session c.held

-- what is told of a call that would end what its session does not hold
abbrev pub not_held_text : List ℕ
not_held_text = codes "no NotHeld\n"

-- the lines of what is held, behind the front of an epoch
abbrev pub held_lines : ObjectForm → Option Custody → List ℕ
held_lines o None = []
held_lines o (Some c) = held_text o c.rules.holds c.held

-- those of the object at a place
abbrev pub held_lines_in : Custodies → ℕ → Option Scene → List ℕ
held_lines_in all at None = []
held_lines_in all at (Some object) = held_lines (object_of object.hall.object) (slice_get all at)
