-- What counters tell of a trace for which they stand, and for which they stand after an event.
use Rattle.std.proofs.Common.{◌≡◌, ℕ, ◌+◌, ◌-◌, ◌<◌, ◌≤◌, inl, inr, true, List, [], ◌∷◌, ap, arith, sym, ◌∙◌, length, get_or, subst}
use Rattle.std.proofs.Math.ListN.{set}
use Rattle.std.specs.Prelude.{◌==◌}
use Rattle.std.specs.Bool.{Decides}
use Rattle.std.proofs.lemmas.Bool.Decides.{eqb_tells, Decides-at}
use Rattle.std.proofs.lemmas.List.{get_or-set_same, get_or-set_other, length-set}
use Rattle.path_tree.specs.Path.{Path}
use Rattle.path_tree.specs.Trace.{Call, Event, Start, End, starts, ends, IsTrace, IsFresh, IsAmong, running_calls}
use Rattle.path_tree.specs.Satisfies.{MayStart}
use Rattle.path_count.specs.Program.{start_steps, finish_steps, after_start, after_finish}
use Rattle.path_count.specs.Object.{programs_of, all_have_room, after_all, StaySmall, KeptAll, AllWithin}
use Rattle.path_count.specs.State.{State}
use Rattle.path_count.specs.Stands.{StandsFor}
use Rattle.path_count.proofs.PathWalk.{after}
use Rattle.path_count.proofs.FinishWalk.{left}
use Rattle.path_count.proofs.Running.{none_of, one_of, same_test, ends_le, call_counts, few_events}
use Rattle.path_count.proofs.Objects.{steady_start, steady_finish, all_within, walk_all, walk_is, walk_length, all_raised, stay_small, all_decide, all_started, all_finished, all_satisfy}

-- each program uses counters that there are
pub starts_within : (c : State) (n : ℕ) (paths : List Path) (t : List Event) (op : ℕ) → StandsFor c n paths t → op < n → AllWithin (get_or c.starts op []) (length c.words)
starts_within c n paths t op h lt = subst (λ s. AllWithin s (length c.words)) (sym (h.start_programs op lt))
    (all_within start_steps after_start after steady_start paths 0 op (length c.words) (omega (arith, h.fits)))

pub finishes_within : (c : State) (n : ℕ) (paths : List Path) (t : List Event) (op : ℕ) → StandsFor c n paths t → op < n → AllWithin (get_or c.finishes op []) (length c.words)
finishes_within c n paths t op h lt = subst (λ s. AllWithin s (length c.words)) (sym (h.finish_programs op lt))
    (all_within finish_steps after_finish left steady_finish paths 0 op (length c.words) (omega (arith, h.fits)))

-- no counter is large
few : (c : State) (n : ℕ) (paths : List Path) (t : List Event) → StandsFor c n paths t → (k : ℕ) → get_or c.words k 0 ≤ 131072
few c n paths t h k = omega (arith, h.small k, few_events t h.trace, h.taken, h.few)

pub starts_small : (c : State) (n : ℕ) (paths : List Path) (t : List Event) (op : ℕ) → StandsFor c n paths t → op < n → StaySmall after_start (get_or c.starts op []) c.words
starts_small c n paths t op h lt = subst (λ s. StaySmall after_start s c.words) (sym (h.start_programs op lt))
    (stay_small start_steps after_start after steady_start paths 0 op c.words (λ k. omega (arith, few c n paths t h k)) (λ k lo. few c n paths t h k))

pub finishes_small : (c : State) (n : ℕ) (paths : List Path) (t : List Event) (op : ℕ) → StandsFor c n paths t → op < n → StaySmall after_finish (get_or c.finishes op []) c.words
finishes_small c n paths t op h lt = subst (λ s. StaySmall after_finish s c.words) (sym (h.finish_programs op lt))
    (stay_small finish_steps after_finish left steady_finish paths 0 op c.words (λ k. omega (arith, few c n paths t h k)) (λ k lo. few c n paths t h k))

call_of : ℕ → ℕ → Call
call_of number op = record { number = number; operation = op }

pub may_start : (c : State) (n : ℕ) (paths : List Path) (t : List Event) (op : ℕ) → StandsFor c n paths t → op < n → Decides (all_have_room (get_or c.starts op []) c.words) (MayStart paths op t)
unfolding call_of
may_start c n paths t op h lt =
    Decides-at (all_have_room (get_or c.starts op []) c.words) (all_have_room (programs_of start_steps paths 0 op) c.words) (ap (λ s. all_have_room s c.words) (h.start_programs op lt)) (
      (λ room number. (all_decide paths 0 c.words (call_of number op) t h.trace h.satisfied h.once h.kept).0 room),
      (λ may. (all_decide paths 0 c.words (call_of 0 op) t h.trace h.satisfied h.once h.kept).1 (may 0)),
    )

running_start : (run : List ℕ) (n : ℕ) (call : Call) (t : List Event) → length run ≡ n → IsTrace t → call.operation < n →
    ((op : ℕ) → op < n → get_or run op 0 ≡ starts op t - ends op t) →
    (op : ℕ) → op < n → get_or (set run call.operation (get_or run call.operation 0 + 1)) op 0 ≡ starts op (Start call ∷ t) - ends op (Start call ∷ t)
running_start run n call t size trace lt counts op below = elim (eqb_tells call.operation op) [
  | inl same ↦ subst (λ o. get_or (set run call.operation (get_or run call.operation 0 + 1)) o 0 ≡ starts o (Start call ∷ t) - ends o t) same.1
      (get_or-set_same run call.operation (get_or run call.operation 0 + 1) 0 (omega (arith, size, lt))
      ∙ omega (arith, counts call.operation lt, ends_le call.operation t trace, one_of (call.operation == call.operation) (same_test call.operation)))
  | inr other ↦ get_or-set_other run call.operation op (get_or run call.operation 0 + 1) 0 (λ e. other.1 (sym e))
      ∙ omega (arith, counts op below, none_of (call.operation == op) other.0)
]

running_finish : (run : List ℕ) (n : ℕ) (call : Call) (t : List Event) → length run ≡ n → ends call.operation t < starts call.operation t → call.operation < n →
    ((op : ℕ) → op < n → get_or run op 0 ≡ starts op t - ends op t) →
    (op : ℕ) → op < n → get_or (set run call.operation (get_or run call.operation 0 - 1)) op 0 ≡ starts op (End call ∷ t) - ends op (End call ∷ t)
running_finish run n call t size runs lt counts op below = elim (eqb_tells call.operation op) [
  | inl same ↦ subst (λ o. get_or (set run call.operation (get_or run call.operation 0 - 1)) o 0 ≡ starts o t - ends o (End call ∷ t)) same.1
      (get_or-set_same run call.operation (get_or run call.operation 0 - 1) 0 (omega (arith, size, lt))
      ∙ omega (arith, counts call.operation lt, runs, one_of (call.operation == call.operation) (same_test call.operation)))
  | inr other ↦ get_or-set_other run call.operation op (get_or run call.operation 0 - 1) 0 (λ e. other.1 (sym e))
      ∙ omega (arith, counts op below, none_of (call.operation == op) other.0)
]

pub stands_after_start : (c : State) (n : ℕ) (paths : List Path) (t : List Event) (call : Call) → StandsFor c n paths t → call.operation < n → c.taken < 65536 → IsFresh call.number t →
    all_have_room (get_or c.starts call.operation []) c.words ≡ true →
    StandsFor (record {
      words = after_all after_start (get_or c.starts call.operation []) c.words;
      starts = c.starts;
      finishes = c.finishes;
      running = set c.running call.operation (get_or c.running call.operation 0 + 1);
      taken = c.taken + 1;
    }) n paths (Start call ∷ t)
stands_after_start c n paths t call h lt fewer fresh room =
    let op = call.operation in
    let same : after_all after_start (get_or c.starts op []) c.words ≡ walk_all after paths 0 op c.words =
    ap (λ s. after_all after_start s c.words) (h.start_programs op lt) ∙ walk_is start_steps after_start after steady_start paths 0 op c.words in
    record {
      trace = (fresh, h.trace);
      satisfied = (all_decide paths 0 c.words call t h.trace h.satisfied h.once h.kept).0 (sym (ap (λ s. all_have_room s c.words) (h.start_programs op lt)) ∙ room);
      once = h.once;
      kept = subst (λ w. KeptAll paths 0 w (Start call ∷ t)) (sym same) (all_started paths c.words call t h.trace h.satisfied h.once h.fits h.kept);
      fits = omega (arith, h.fits, ap length same, walk_length start_steps after_start after steady_start paths 0 op c.words);
      small = λ k. omega (arith, h.small k, ap (λ w. get_or w k 0) same, all_raised start_steps after_start after steady_start paths 0 op c.words k);
      operations = h.operations;
      start_programs = h.start_programs;
      finish_programs = h.finish_programs;
      counted = length-set c.running op (get_or c.running op 0 + 1) ∙ h.counted;
      running = running_start c.running n call t h.counted h.trace lt h.running;
      taken = omega (arith, h.taken);
      few = omega (arith, fewer);
    }

pub stands_after_finish : (c : State) (n : ℕ) (paths : List Path) (t : List Event) (call : Call) → StandsFor c n paths t → call.operation < n → IsAmong call (running_calls t) →
    StandsFor (record {
      words = after_all after_finish (get_or c.finishes call.operation []) c.words;
      starts = c.starts;
      finishes = c.finishes;
      running = set c.running call.operation (get_or c.running call.operation 0 - 1);
      taken = c.taken;
    }) n paths (End call ∷ t)
stands_after_finish c n paths t call h lt among =
    let op = call.operation in
    let runs = call_counts call t h.trace among in
    let same : after_all after_finish (get_or c.finishes op []) c.words ≡ walk_all left paths 0 op c.words =
    ap (λ s. after_all after_finish s c.words) (h.finish_programs op lt) ∙ walk_is finish_steps after_finish left steady_finish paths 0 op c.words in
    record {
      trace = (among, h.trace);
      satisfied = all_satisfy paths t call h.satisfied;
      once = h.once;
      kept = subst (λ w. KeptAll paths 0 w (End call ∷ t)) (sym same) (all_finished paths c.words call t h.trace h.satisfied h.once h.fits runs h.kept);
      fits = omega (arith, h.fits, ap length same, walk_length finish_steps after_finish left steady_finish paths 0 op c.words);
      small = λ k. omega (arith, h.small k, ap (λ w. get_or w k 0) same, all_raised finish_steps after_finish left steady_finish paths 0 op c.words k);
      operations = h.operations;
      start_programs = h.start_programs;
      finish_programs = h.finish_programs;
      counted = length-set c.running op (get_or c.running op 0 - 1) ∙ h.counted;
      running = running_finish c.running n call t h.counted runs lt h.running;
      taken = h.taken;
      few = h.few;
    }
