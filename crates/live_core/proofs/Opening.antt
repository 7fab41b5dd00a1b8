-- An object that opens behind a past.
use Rattle.std.proofs.Common.{◌≡◌, ℕ, ◌≤◌, List, [], ◌∷◌, length, refl, sym, ◌∙◌, ap, arith, map}
use Rattle.path_tree.specs.Trace.{Event, Start, End, IsFresh, running_calls}
use Rattle.path_count.specs.State.{State}
use Rattle.path_count.specs.Stands.{StandsFor, started_calls}
use Rattle.path_count.specs.declared.past.PastEvent.{PastEvent}
use Rattle.path_count.specs.Past.{events_of, AreBefore}
use Rattle.value_core.specs.Contents.{Contents, kind_of}
use Rattle.decl_core.specs.declared.object.Object.{Object}
use Rattle.decl_core.specs.declared.object.Part.{Part}
use Rattle.decl_core.specs.ObjectMap.{object_of, parts_of}
use Rattle.live_core.specs.declared.call.Limits.{Limits}
use Rattle.live_core.specs.Hall.{Hall, IsKept}
use Rattle.live_core.specs.Epochs.{told_behind}

pub fresh_before : (n : ℕ) (t : List Event) → n ≤ 65536 → AreBefore t → IsFresh n t
fresh_before n [] few all = tt
fresh_before n (Start call ∷ t) few all = ((λ same. omega (arith, all.0, few, same)), fresh_before n t few all.1)
fresh_before n (End call ∷ t) few all = fresh_before n t few all

kinds_same : (parts : List Part) → map (λ p. p.1) (parts_of parts) ≡ map (λ (p : Part). p.kind) parts
kinds_same [] = refl
kinds_same (p ∷ parts) = ap (λ kinds. p.kind ∷ kinds) (kinds_same parts)

-- an object in which nothing has happened, behind a past of so many calls
abbrev pub opened : Object → State → List Contents → ℕ → Limits → Hall
opened object counters parts before limits = record {
  object = object;
  counters = counters;
  contents = parts;
  waiting = [];
  given = 0;
  before = before;
  sessions = limits.sessions;
  room = limits.waiting;
}

pub opened_kept : (object : Object) (counters : State) (parts : List Contents) (all : List PastEvent) (calls : ℕ) (limits : Limits) →
    StandsFor counters (length (object_of object).operations) (object_of object).paths (events_of all) → running_calls (events_of all) ≡ [] → AreBefore (events_of all) →
    map kind_of parts ≡ map (λ (p : Part). p.kind) object.parts.items → started_calls (events_of all) ≡ calls → calls ≤ 65536 →
    IsKept (opened object counters parts calls limits) (told_behind all parts)
opened_kept object counters parts all calls limits stands quiet before kinds starts few = record {
  stands = stands;
  quiet = quiet;
  legal = tt;
  contents = refl;
  numbers = tt;
  kinds = kinds ∙ sym (kinds_same object.parts.items);
  fresh = λ n more most. fresh_before n (events_of all) most before;
  waits = tt;
  in_order = tt;
  one_each = tt;
  counted = omega (arith, starts);
  few = omega (arith, few);
}
