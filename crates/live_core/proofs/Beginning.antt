-- An epoch more: what holds behind the short past.
use Rattle.std.proofs.Common.{◌≡◌, ◌≢◌, ℕ, ◌+◌, ◌/◌, ◌<◌, ◌≤◌, List, [], ◌∷◌, length, refl, sym, ◌∙◌, ap, subst, arith, true}
use Rattle.path_tree.specs.Path.{Path}
use Rattle.path_tree.specs.Trace.{Call, Event}
use Rattle.path_tree.specs.Satisfies.{MayStart}
use Rattle.path_count.specs.State.{State}
use Rattle.path_count.specs.Program.{start_steps}
use Rattle.path_count.specs.Object.{programs_of, all_have_room}
use Rattle.path_count.specs.Stands.{StandsFor}
use Rattle.path_count.proofs.Objects.{all_decide}
use Rattle.path_count.specs.declared.past.PastEvent.{PastEvent}
use Rattle.path_count.specs.Past.{events_of}
use Rattle.decl_core.specs.ObjectMap.{object_of}
use Rattle.word_core.specs.Events.{Called}
use Rattle.live_core.specs.Hall.{Hall, Told, trace, Every, EachPair, IsKept, IsWaiting, Rests, MayBegin}
use Rattle.live_core.specs.Epochs.{told_behind, numbered_from, IsShortOf, IsBegun}
use Rattle.live_core.proofs.Numbering.{numbered_in_order, one_each}
use Rattle.live_core.proofs.Opening.{fresh_before}

-- calls that are numbered anew

pub length_numbered : (n : ℕ) (calls : List Called) → length (numbered_from n calls) ≡ length calls
length_numbered n [] = refl
length_numbered n (c ∷ calls) = omega (arith, length_numbered (n + 1) calls)

numbered_every : (P Q : Called → Type 0) (most n : ℕ) (calls : List Called) → ((c : Called) (k : ℕ) → P c → 1 ≤ k → k ≤ most → Q (record c { number = k })) → n + length calls ≤ most →
    Every P calls → Every Q (numbered_from n calls)
numbered_every P Q most n [] more fits all = tt
numbered_every P Q most n (c ∷ calls) more fits all =
    (more c (n + 1) all.0 (omega arith) (omega (arith, fits)), numbered_every P Q most (n + 1) calls more (omega (arith, fits)) all.1)

-- an operation may start behind the one trace where it may behind another one that leaves the same counters
may_same : (c d : State) (n : ℕ) (paths : List Path) (op : ℕ) (t s : List Event) → StandsFor c n paths t → StandsFor d n paths s → c.words ≡ d.words →
    MayStart paths op s → MayStart paths op t
may_same c d n paths op t s stands other same may = λ number.
    let call : Call = record { number = number; operation = op } in
    let room = (all_decide paths 0 d.words call s other.trace other.satisfied other.once other.kept).1 (may number) in
    (all_decide paths 0 c.words call t stands.trace stands.satisfied stands.once stands.kept).0
    (subst (λ w. all_have_room (programs_of start_steps paths 0 op) w ≡ true) (sym same) room)

module _ (h : Hall) (t : Told) (counters : State) (all : List PastEvent) (calls given : ℕ) (waiting : List Called)
    (short : IsShortOf (object_of h.object) h.counters all counters) (numbered : waiting ≡ numbered_from 0 h.waiting) (counted : given ≡ length waiting) (halved : calls ≡ length all / 2) where
  -- what the hand holds then
  abbrev pub begun : Hall
  begun = record h { counters = counters; waiting = waiting; given = given; before = calls }

  as_many : given ≡ length h.waiting
  as_many = counted ∙ ap length numbered ∙ length_numbered 0 h.waiting

  pub begun_kept : IsKept h t → calls + length h.waiting ≤ 65536 → IsKept begun (told_behind all h.contents)
  begun_kept kept few = record {
    stands = short.stands;
    quiet = short.quiet;
    legal = tt;
    contents = refl;
    numbers = tt;
    kinds = kept.kinds;
    fresh = λ n more most. fresh_before n (events_of all) most short.before;
    waits = subst (Every (IsWaiting begun (told_behind all h.contents))) (sym numbered)
        (numbered_every (IsWaiting h t) (IsWaiting begun (told_behind all h.contents)) given 0 h.waiting
        (λ c k w low high. record {
          of = record { known = w.of.known; fit = w.of.fit };
          number = (low, high);
          fresh = fresh_before k (events_of all) (omega (arith, high, few, as_many)) short.before;
        }) (omega (arith, as_many)) kept.waits);
    in_order = subst (EachPair (λ (c d : Called). c.number < d.number)) (sym numbered) (numbered_in_order 0 h.waiting);
    one_each = subst (EachPair (λ (c d : Called). c.session ≢ d.session)) (sym numbered) (one_each 0 h.waiting kept.one_each);
    counted = omega (arith, short.starts, halved, counted);
    few = omega (arith, few, as_many);
  }

  pub begun_rests : IsKept h t → Rests (object_of h.object) h.waiting t → Rests (object_of h.object) waiting (told_behind all h.contents)
  begun_rests kept rests =
      let o = object_of h.object in
      subst (λ calls. Rests o calls (told_behind all h.contents)) (sym numbered)
      (numbered_every (λ c. MayBegin o t c → ⊥) (λ c. MayBegin o (told_behind all h.contents) c → ⊥) (length h.waiting) 0 h.waiting
      (λ c k none low high may. none (may_same h.counters counters (length o.operations) o.paths c.operation (trace t) (events_of all) kept.stands short.stands (sym short.same) may)) (omega arith) rests)

  pub is_begun : IsBegun h all begun
  is_begun = record {
    object = refl;
    sessions = refl;
    room = refl;
    contents = refl;
    counted = short.same;
    waiting = numbered;
    given = as_many;
    calls = omega (arith, short.starts, halved);
  }
