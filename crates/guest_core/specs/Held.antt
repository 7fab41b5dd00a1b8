-- What is held, by the holds of an object and what happened to its calls, and who may end it.
use Rattle.std.specs.Prelude.{◌≡◌, ◌≢◌, ◌⊎◌, ℕ, ◌+◌, ◌==◌, Bool, true, false, List, [], ◌∷◌, ◌++◌, Option, Some, None, All}
use Rattle.std.specs.Prelude.{slice_get, take, drop, if◌then◌else◌}
use Rattle.value_core.specs.declared.datum.Datum.{Datum}
use Rattle.apply_core.specs.declared.reply.Reply.{Reply}
use Rattle.apply_core.specs.declared.reply.Reply.TheVariants.{Done, Refused, Failed}
use Rattle.decl_core.specs.HoldForm.{HoldForm, is_one_of}
use Rattle.path_tree.specs.Known.{next}
use Rattle.guest_core.specs.declared.hold_ends.HoldEnds.{HoldEnds}
use Rattle.guest_core.specs.declared.hold_ends.HoldEnds.TheVariants.{ByDone, ByAny}
use Rattle.word_core.specs.Events.{Called, Happened, began, ended}

-- a call that is held: its number, its session, the place of its hold in the object, and what it is held with
pub record HeldCall : Type 0 where
  pub number : ℕ
  pub session : ℕ
  pub rule : ℕ
  pub values : List Datum

-- what a call replied, as data
abbrev pub reply_data : Reply → List Datum
reply_data (Done None) = []
reply_data (Done (Some d)) = d ∷ []
reply_data (Refused word) = []
reply_data (Failed failure) = []

-- what a done call is held with: its arguments, and its reply behind them
abbrev pub held_data : Called → Reply → List Datum
held_data c reply = c.arguments ++ reply_data reply

-- the hold of an operation, and the hold that a call of an operation ends, by their places
abbrev pub hold_of_op : List HoldForm → ℕ → Option ℕ
hold_of_op [] op = None
hold_of_op (h ∷ holds) op = if h.op == op then Some 0 else next (hold_of_op holds op)

abbrev pub hold_ended : List HoldForm → ℕ → Option ℕ
hold_ended [] op = None
hold_ended (h ∷ holds) op = if is_one_of h.until op then Some 0 else next (hold_ended holds op)

-- what a call holds from its end on: nothing, where it was not done
abbrev pub begun_by : Option ℕ → Called → Reply → List HeldCall
begun_by None c reply = []
begun_by (Some r) c (Done d) =
    record { number = c.number; session = c.session; rule = r; values = held_data c (Done d) } ∷ []
begun_by (Some r) c (Refused word) = []
begun_by (Some r) c (Failed failure) = []

abbrev pub begun : List HoldForm → Called → Reply → List HeldCall
begun holds c reply = begun_by (hold_of_op holds c.operation) c reply

-- a held call fits what a call of an operation that ends this hold was given: each, where that is nothing; else where it
-- is what the call is held with
pub record Fits (r : ℕ) (arguments : List Datum) (h : HeldCall) : Type 0 where
  pub rule : h.rule ≡ r
  pub values : arguments ≢ [] → h.values ≡ arguments

-- of these none fits and is of this session
abbrev pub NoneOwn : (HeldCall → Type 0) → ℕ → List HeldCall → Type 0
NoneOwn fits session held = All (λ h. fits h → h.session ≢ session) held

abbrev pub NoneFits : (HeldCall → Type 0) → List HeldCall → Type 0
NoneFits fits held = All (λ h. fits h → ⊥) held

-- The hold at this place is the one that a call of this session ends: the newest of its own that fits; where none of its
-- own does, the oldest of all that fit.
pub record IsEnded (fits : HeldCall → Type 0) (session : ℕ) (held : List HeldCall) (k : ℕ) : Type 0 where
  pub hold : HeldCall
  pub there : slice_get held k ≡ Some hold
  pub fit : fits hold
  pub first : ((hold.session ≡ session) × NoneOwn fits session (drop (k + 1) held))
      ⊎ (NoneOwn fits session held × NoneFits fits (take k held))

-- what is left once a call of this session has ended that ends what fits
abbrev pub GivesOne : (HeldCall → Type 0) → ℕ → List HeldCall → List HeldCall → Type 0
GivesOne fits session held left =
    ((k : ℕ) × IsEnded fits session held k × (left ≡ take k held ++ drop (k + 1) held))
    ⊎ (NoneFits fits held × (left ≡ held))

abbrev pub GivesBy : Option ℕ → Called → List HeldCall → List HeldCall → Type 0
GivesBy None c held left = left ≡ held
GivesBy (Some r) c held left = GivesOne (Fits r c.arguments) c.session held left

-- of the hold that a call of an operation ends: it ends where the call was done; by the rule of before with any end
abbrev pub ended_so : HoldEnds → Reply → Option ℕ → Option ℕ
ended_so ByDone (Done d) found = found
ended_so ByDone (Refused word) found = None
ended_so ByDone (Failed failure) found = None
ended_so ByAny reply found = found

-- what is left once a call has ended with this reply
abbrev pub Gives : HoldEnds → List HoldForm → Called → Reply → List HeldCall → List HeldCall → Type 0
Gives ends holds c reply held left = GivesBy (ended_so ends reply (hold_ended holds c.operation)) c held left

-- What is held after what happened (the newest first); of what is held the oldest first. A hold begins with the end of a
-- done call, and ends with the end of one that ends it, as such ends do.
pub data AreHeldBy (ends : HoldEnds) (holds : List HoldForm) : List Happened → List HeldCall → Type 0 where
  at_first : AreHeldBy ends holds [] []
  at_begin : {c : Called} {past : List Happened} {held : List HeldCall} → AreHeldBy ends holds past held →
      AreHeldBy ends holds (began c ∷ past) held
  at_end : {c : Called} {reply : Reply} {past : List Happened} (held left : List HeldCall) →
      AreHeldBy ends holds past held → Gives ends holds c reply held left →
      AreHeldBy ends holds (ended c reply ∷ past) (left ++ begun holds c reply)

-- the same, where done calls alone end what is held
abbrev pub AreHeld : List HoldForm → List Happened → List HeldCall → Type 0
AreHeld holds past held = AreHeldBy ByDone holds past held

-- a session holds what a call of it would end
pub record HoldsOwn (r session : ℕ) (arguments : List Datum) (held : List HeldCall) : Type 0 where
  pub place : ℕ
  pub hold : HeldCall
  pub there : slice_get held place ≡ Some hold
  pub fit : Fits r arguments hold
  pub own : hold.session ≡ session

-- whether anybody may end the hold at this place
abbrev pub loose_by : Option HoldForm → Bool
loose_by None = true
loose_by (Some h) = h.by_any

abbrev pub is_loose : List HoldForm → ℕ → Bool
is_loose holds r = loose_by (slice_get holds r)

abbrev pub MayUndoBy : List HoldForm → Option ℕ → ℕ → List Datum → List HeldCall → Type 0
MayUndoBy holds None session arguments held = Unit {0}
MayUndoBy holds (Some r) session arguments held = is_loose holds r ≡ false → HoldsOwn r session arguments held

-- a session may call an operation: where it ends a hold that not anybody may end, the session holds what it would end
abbrev pub MayUndo : List HoldForm → ℕ → ℕ → List Datum → List HeldCall → Type 0
MayUndo holds session op arguments held = MayUndoBy holds (hold_ended holds op) session arguments held

-- each call that ended could be made by its session, by what was held then
abbrev pub KeepsHolds : HoldEnds → List HoldForm → List Happened → Type 0
KeepsHolds ends holds [] = Unit {0}
KeepsHolds ends holds (began c ∷ past) = KeepsHolds ends holds past
KeepsHolds ends holds (ended c reply ∷ past) =
    KeepsHolds ends holds past
    × ((held : List HeldCall) → AreHeldBy ends holds past held → MayUndo holds c.session c.operation c.arguments held)
