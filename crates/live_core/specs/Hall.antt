-- An object that is kept: what its hand holds between two steps, and what stands behind that.
use Rattle.std.specs.Prelude.{◌≡◌, ◌≢◌, ℕ, ◌+◌, ◌<◌, ◌≤◌, List, [], ◌∷◌, ◌++◌, length, map}
use Rattle.path_tree.specs.Trace.{Event, IsFresh, running_calls}
use Rattle.path_tree.specs.Satisfies.{MayStart}
use Rattle.path_count.specs.State.{State}
use Rattle.path_count.specs.Stands.{StandsFor, started_calls}
use Rattle.value_core.specs.Datum.{elem_of}
use Rattle.value_core.specs.Contents.{Contents, kind_of}
use Rattle.decl_core.specs.declared.object.Object.{Object}
use Rattle.decl_core.specs.ObjectForm.{ObjectForm}
use Rattle.decl_core.specs.ObjectMap.{object_of}
use Rattle.apply_core.specs.History.{IsLegal, leads_to}
use Rattle.word_core.specs.Events.{Called, Happened, began, ended, trace_of, history_of, body_at}

-- it holds of each item
abbrev pub Every : {X : Type 0} → (X → Type 0) → List X → Type 0
Every P [] = Unit {0}
Every P (x ∷ xs) = P x × Every P xs

-- it holds of each item and each later one
abbrev pub EachPair : {X : Type 0} → (X → X → Type 0) → List X → Type 0
EachPair R [] = Unit {0}
EachPair R (x ∷ xs) = Every (R x) xs × EachPair R xs

-- What a hand holds: the object, what its paths have counted, the contents now, the calls that wait in the order of
-- their numbers, how many numbers were given out in this epoch, how many calls the past has, the greatest number of a
-- session, and how many calls may wait.
pub record Hall : Type 0 where
  pub object : Object
  pub counters : State
  pub contents : List Contents
  pub waiting : List Called
  pub given : ℕ
  pub before : ℕ
  pub sessions : ℕ
  pub room : ℕ

-- What stands behind it, and lies in no memory: the past, the contents with which the epoch opened, and what
-- happened in it, the newest first.
pub record Told : Type 0 where
  pub past : List Event
  pub opening : List Contents
  pub happened : List Happened

-- all that happened, as paths see it: the epoch behind the past
abbrev pub trace : Told → List Event
trace t = trace_of t.happened ++ t.past

-- a call is of an operation of the object, and its arguments fit it
pub record IsCallOf (o : ObjectForm) (c : Called) : Type 0 where
  pub known : c.operation < length o.operations
  pub fit : map elem_of c.arguments ≡ (body_at o c.operation).params

-- a waiting call has one of the numbers that were given out, and has not begun
pub record IsWaiting (h : Hall) (t : Told) (c : Called) : Type 0 where
  pub of : IsCallOf (object_of h.object) c
  pub number : (1 ≤ c.number) × (c.number ≤ h.given)
  pub fresh : IsFresh c.number (trace t)

-- each call that began has one of the numbers up to this one
abbrev pub AreNumbered : ℕ → List Happened → Type 0
AreNumbered most [] = Unit {0}
AreNumbered most (began c ∷ past) = (1 ≤ c.number) × (c.number ≤ most) × AreNumbered most past
AreNumbered most (ended c reply ∷ past) = AreNumbered most past

-- a call may start: every path of the object admits it
abbrev pub MayBegin : ObjectForm → Told → Called → Type 0
MayBegin o t c = MayStart o.paths c.operation (trace t)

-- No call runs; what happened satisfies every path at each of its moments (`stands`), its history is legal from the
-- opening contents and leads to the contents now.
pub record IsKept (h : Hall) (t : Told) : Type 0 where
  pub stands : StandsFor h.counters (length (object_of h.object).operations) (object_of h.object).paths (trace t)
  pub quiet : running_calls (trace t) ≡ []
  pub legal : IsLegal (history_of (object_of h.object) t.happened) t.opening
  pub contents : h.contents ≡ leads_to (history_of (object_of h.object) t.happened) t.opening
  pub numbers : AreNumbered h.given t.happened
  pub kinds : map kind_of h.contents ≡ map (λ p. p.1) (object_of h.object).parts
  pub fresh : (n : ℕ) → h.given < n → n ≤ 65536 → IsFresh n (trace t)
  pub waits : Every (IsWaiting h t) h.waiting
  pub in_order : EachPair (λ (c d : Called). c.number < d.number) h.waiting
  pub one_each : EachPair (λ (c d : Called). c.session ≢ d.session) h.waiting
  pub counted : started_calls (trace t) + length h.waiting ≤ h.before + h.given
  pub few : h.before + h.given ≤ 65536

-- no waiting call may start
abbrev pub Rests : ObjectForm → List Called → Told → Type 0
Rests o waiting t = Every (λ c. MayBegin o t c → ⊥) waiting

-- An object between two steps.
pub record IsHeld (h : Hall) (t : Told) : Type 0 where
  pub kept : IsKept h t
  pub rests : Rests (object_of h.object) h.waiting t
