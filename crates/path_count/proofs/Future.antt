-- Two traces that leave the same counters have the same future.
use Rattle.std.proofs.Common.{◌≡◌, ℕ, ◌+◌, ◌<◌, ◌≤◌, inl, inr, Bool, true, false, List, [], ◌∷◌, ◌++◌, map, refl, ap, arith, sym, ◌∙◌, length, subst}
use Rattle.std.specs.Prelude.{◌==◌, ◌&&◌, if◌then◌else◌}
use Rattle.std.proofs.lemmas.Bool.Decides.{nat_tests}
use Rattle.path_tree.specs.Path.{Path}
use Rattle.path_tree.specs.Trace.{Call, Event, Start, End, IsTrace, IsFresh, IsAmong, running_calls, without}
use Rattle.path_tree.specs.Satisfies.{SatisfiesAll}
use Rattle.path_count.specs.Program.{start_steps, after_start, finish_steps, after_finish}
use Rattle.path_count.specs.Object.{all_slots, programs_of, all_have_room, KeptAll, AllOnce}
use Rattle.path_count.specs.Future.{Leaves, AreAlike, later_call, later, AreUpTo}
use Rattle.path_count.proofs.PathWalk.{after}
use Rattle.path_count.proofs.FinishWalk.{left}
use Rattle.path_count.proofs.Running.{call_counts}
use Rattle.path_count.proofs.Objects.{steady_start, steady_finish, walk_all, walk_length, all_decide, all_started, all_finished, all_satisfy}

-- what satisfies the paths did so before its last event
before_last : (paths : List Path) (event : Event) (t : List Event) → SatisfiesAll paths (event ∷ t) → SatisfiesAll paths t
before_last [] event t h = tt
before_last (p ∷ paths) event t h = (h.0.1, before_last paths event t h.1)

-- both leave the same counters
pub record LeaveBoth (paths : List Path) (t s : List Event) : Type 0 where
  pub words : List ℕ
  pub fits : all_slots paths ≤ length words
  pub one : Leaves paths t words
  pub other : Leaves paths s words

both_started : (paths : List Path) (t s : List Event) (c d : Call) → AllOnce paths → c.operation ≡ d.operation → LeaveBoth paths t s → IsTrace (Start c ∷ t) → IsTrace (Start d ∷ s) →
    SatisfiesAll paths (Start c ∷ t) → LeaveBoth paths (Start c ∷ t) (Start d ∷ s)
both_started paths t s c d once same b trace_t trace_s holds =
    let room = (all_decide paths 0 b.words c t b.one.trace b.one.satisfied once b.one.kept).1 holds in
    let room_d : all_have_room (programs_of start_steps paths 0 d.operation) b.words ≡ true = subst (λ o. all_have_room (programs_of start_steps paths 0 o) b.words ≡ true) same room in
    record {
      words = walk_all after paths 0 c.operation b.words;
      fits = omega (arith, b.fits, walk_length start_steps after_start after steady_start paths 0 c.operation b.words);
      one = record { trace = trace_t; satisfied = holds; kept = all_started paths b.words c t b.one.trace b.one.satisfied once b.fits b.one.kept };
      other = record {
        trace = trace_s;
        satisfied = (all_decide paths 0 b.words d s b.other.trace b.other.satisfied once b.other.kept).0 room_d;
        kept = subst (λ o. KeptAll paths 0 (walk_all after paths 0 o b.words) (Start d ∷ s)) (sym same) (all_started paths b.words d s b.other.trace b.other.satisfied once b.fits b.other.kept);
      };
    }

both_finished : (paths : List Path) (t s : List Event) (c d : Call) → AllOnce paths → c.operation ≡ d.operation → LeaveBoth paths t s → IsTrace (End c ∷ t) → IsTrace (End d ∷ s) →
    LeaveBoth paths (End c ∷ t) (End d ∷ s)
both_finished paths t s c d once same b trace_t trace_s = record {
  words = walk_all left paths 0 c.operation b.words;
  fits = omega (arith, b.fits, walk_length finish_steps after_finish left steady_finish paths 0 c.operation b.words);
  one = record {
    trace = trace_t;
    satisfied = all_satisfy paths t c b.one.satisfied;
    kept = all_finished paths b.words c t b.one.trace b.one.satisfied once b.fits (call_counts c t b.one.trace trace_t.0) b.one.kept;
  };
  other = record {
    trace = trace_s;
    satisfied = all_satisfy paths s d b.other.satisfied;
    kept = subst (λ o. KeptAll paths 0 (walk_all left paths 0 o b.words) (End d ∷ s)) (sym same)
        (all_finished paths b.words d s b.other.trace b.other.satisfied once b.fits (call_counts d s b.other.trace trace_s.0) b.other.kept);
  };
}

pub leave_both : (paths : List Path) (words : List ℕ) (t s more others : List Event) → AllOnce paths → all_slots paths ≤ length words → Leaves paths t words → Leaves paths s words → AreAlike more others →
    IsTrace (more ++ t) → IsTrace (others ++ s) → SatisfiesAll paths (more ++ t) → LeaveBoth paths (more ++ t) (others ++ s)
leave_both paths words t s [] [] once fits one other alike trace_t trace_s holds = record { words = words; fits = fits; one = one; other = other }
leave_both paths words t s [] (e ∷ others) once fits one other alike trace_t trace_s holds = absurd alike
leave_both paths words t s (e ∷ more) [] once fits one other alike trace_t trace_s holds = absurd alike
leave_both paths words t s (Start c ∷ more) (Start d ∷ others) once fits one other alike trace_t trace_s holds =
    both_started paths (more ++ t) (others ++ s) c d once alike.0
    (leave_both paths words t s more others once fits one other alike.1 trace_t.1 trace_s.1 (before_last paths (Start c) (more ++ t) holds)) trace_t trace_s holds
leave_both paths words t s (Start c ∷ more) (End d ∷ others) once fits one other alike trace_t trace_s holds = absurd alike
leave_both paths words t s (End c ∷ more) (Start d ∷ others) once fits one other alike trace_t trace_s holds = absurd alike
leave_both paths words t s (End c ∷ more) (End d ∷ others) once fits one other alike trace_t trace_s holds =
    both_finished paths (more ++ t) (others ++ s) c d once alike.0
    (leave_both paths words t s more others once fits one other alike.1 trace_t.1 trace_s.1 (before_last paths (End c) (more ++ t) holds)) trace_t trace_s

-- events that are numbered on are alike
pub later_alike : (one other : ℕ) (events : List Event) → AreAlike (later one events) (later other events)
later_alike one other [] = tt
later_alike one other (Start call ∷ events) = (refl, later_alike one other events)
later_alike one other (End call ∷ events) = (refl, later_alike one other events)

-- a past knows no later number
fresh_past : (base n : ℕ) (past : List Event) → 0 < n → AreUpTo base past → IsFresh (base + n) past
fresh_past base n [] up h = tt
fresh_past base n (Start call ∷ past) up h = ((λ e. absurd (omega (arith, e, h.1, up))), fresh_past base n past up h.2)
fresh_past base n (End call ∷ past) up h = fresh_past base n past up h

fresh_later : (base n : ℕ) (epoch past : List Event) → 0 < n → IsFresh n epoch → AreUpTo base past → IsFresh (base + n) (later base epoch ++ past)
fresh_later base n [] past up fresh h = fresh_past base n past up h
fresh_later base n (Start call ∷ epoch) past up fresh h = ((λ e. fresh.0 (omega (arith, e))), fresh_later base n epoch past up fresh.1 h)
fresh_later base n (End call ∷ epoch) past up fresh h = fresh_later base n epoch past up fresh h

same_test_on : (base a b : ℕ) → (base + a == base + b) ≡ (a == b)
same_test_on base a b = grind (arith, nat_tests)

among_later : (base : ℕ) (call : Call) (calls : List Call) → IsAmong call calls → IsAmong (later_call base call) (map (later_call base) calls)
among_later base call [] h = absurd h
among_later base call (c ∷ calls) h = elim h [
  | inl here ↦ inl (ap (λ n. base + n) here.0, here.1)
  | inr more ↦ inr (among_later base call calls more)
]

by_test : (base : ℕ) (b : Bool) (c : Call) (calls xs ys : List Call) → xs ≡ map (later_call base) ys →
    (if b then map (later_call base) calls else (later_call base c ∷ xs)) ≡ map (later_call base) (if b then calls else (c ∷ ys))
by_test base true c calls xs ys rest = refl
by_test base false c calls xs ys rest = ap (λ r. later_call base c ∷ r) rest

without_later : (base : ℕ) (call : Call) (calls : List Call) → without (later_call base call) (map (later_call base) calls) ≡ map (later_call base) (without call calls)
without_later base call [] = refl
without_later base call (c ∷ calls) =
    ap (λ b. if b && (c.operation == call.operation) then map (later_call base) calls else (later_call base c ∷ without (later_call base call) (map (later_call base) calls))) (same_test_on base c.number call.number)
    ∙ by_test base ((c.number == call.number) && (c.operation == call.operation)) c calls (without (later_call base call) (map (later_call base) calls)) (without call calls) (without_later base call calls)

pub running_later : (base : ℕ) (epoch past : List Event) → running_calls past ≡ [] → running_calls (later base epoch ++ past) ≡ map (later_call base) (running_calls epoch)
running_later base [] past quiet = quiet
running_later base (Start call ∷ epoch) past quiet = ap (λ r. later_call base call ∷ r) (running_later base epoch past quiet)
running_later base (End call ∷ epoch) past quiet = ap (λ r. without (later_call base call) r) (running_later base epoch past quiet) ∙ without_later base call (running_calls epoch)

-- an epoch behind a past is a trace
pub joined_trace : (base most : ℕ) (epoch past : List Event) → IsTrace epoch → AreUpTo most epoch → IsTrace past → AreUpTo base past → running_calls past ≡ [] → IsTrace (later base epoch ++ past)
joined_trace base most [] past trace numbers trace_past up quiet = trace_past
joined_trace base most (Start call ∷ epoch) past trace numbers trace_past up quiet =
    (fresh_later base call.number epoch past numbers.0 trace.0 up, joined_trace base most epoch past trace.1 numbers.2 trace_past up quiet)
joined_trace base most (End call ∷ epoch) past trace numbers trace_past up quiet = (
  subst (λ r. IsAmong (later_call base call) r) (sym (running_later base epoch past quiet)) (among_later base call (running_calls epoch) trace.0),
  joined_trace base most epoch past trace.1 numbers trace_past up quiet,
)
