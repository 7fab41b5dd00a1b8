-- What the fields of counters tell.
use Rattle.std.proofs.Common.{◌≡◌, ℕ, zero, suc, ◌+◌, ◌-◌, ◌<◌, ◌≤◌, true, List, [], ◌∷◌, refl, ap, arith, sym, ◌∙◌, length, get_or, map, subst}
use Rattle.std.proofs.Math.ListN.{set}
use Rattle.std.specs.Bool.{Decides}
use Rattle.std.proofs.lemmas.Bool.Decides.{Decides-at, Decides-like}
use Rattle.std.proofs.lemmas.List.{length-map}
use Rattle.path_tree.specs.Path.{Path}
use Rattle.path_tree.specs.Trace.{Call, Event, Start, End, starts, IsFresh, IsAmong, running_calls}
use Rattle.path_tree.specs.Satisfies.{MayStart}
use Rattle.path_count.specs.declared.object.OperationPrograms.{OperationPrograms}
use Rattle.path_count.specs.declared.counters.Counters.TheInside.{Inside}
use Rattle.path_count.specs.declared.program.Step.{Step}
use Rattle.path_count.specs.Program.{after_start, after_finish}
use Rattle.path_count.specs.Object.{all_slots, AllOnce, AllWithin, all_have_room, after_all, StaySmall}
use Rattle.path_count.specs.State.{State}
use Rattle.path_count.specs.Parts.{chosen}
use Rattle.path_count.specs.Steps.{steps_of, AreCompiled, AllZero}
use Rattle.path_count.specs.Stands.{StandsFor}
use Rattle.path_count.specs.View.{state_of}
use Rattle.path_count.proofs.Compiling.{compiled_at, whole_part}
use Rattle.path_count.proofs.Empty.{all_first, all_zero_kept}
use Rattle.path_count.proofs.Running.{a_call_runs, a_number_is_fresh, starts_le}
use Rattle.path_count.proofs.Standing.{starts_within, finishes_within, starts_small, finishes_small, may_start, stands_after_start, stands_after_finish}

-- there is a trace for which the counters stand
abbrev pub Standing : State → Type 0
Standing c = (n : ℕ) × (paths : List Path) × (t : List Event) × StandsFor c n paths t

-- what was read for an operation: its programs
pub record Read (a : Inside) (op : ℕ) (o : OperationPrograms) : Type 0 where
  pub inside : op < length a.operations.items
  pub is : o ≡ get_or a.operations.items op o

read_map : (f : OperationPrograms → List (List Step)) (xs : List OperationPrograms) (i : ℕ) (x : OperationPrograms) (d : List (List Step)) → i < length xs → x ≡ get_or xs i x → get_or (map f xs) i d ≡ f x
read_map f [] i x d lt is = absurd (omega arith)
read_map f (y ∷ ys) zero x d lt is = ap f (sym is)
read_map f (y ∷ ys) (suc i) x d lt is = read_map f ys i x d (omega arith) is

read_starts : (a : Inside) (op : ℕ) (o : OperationPrograms) → Read a op o → get_or (state_of a).starts op [] ≡ steps_of o.starts.items
read_starts a op o r = read_map (λ x. steps_of x.starts.items) a.operations.items op o [] r.inside r.is

read_finishes : (a : Inside) (op : ℕ) (o : OperationPrograms) → Read a op o → get_or (state_of a).finishes op [] ≡ steps_of o.finishes.items
read_finishes a op o r = read_map (λ x. steps_of x.finishes.items) a.operations.items op o [] r.inside r.is

pub below_n : (a : Inside) (op : ℕ) (n : ℕ) (paths : List Path) (t : List Event) → StandsFor (state_of a) n paths t → op < length a.operations.items → op < n
below_n a op n paths t h inside = omega (arith, h.operations, length-map a.operations.items (λ o. steps_of o.starts.items))

pub starts_within_read : (a : Inside) (op : ℕ) (o : OperationPrograms) → Standing (state_of a) → Read a op o → AllWithin (steps_of o.starts.items) (length a.words.items)
starts_within_read a op o s r = subst (λ x. AllWithin x (length a.words.items)) (read_starts a op o r) (starts_within (state_of a) s.0 s.1 s.2 op s.3 (below_n a op s.0 s.1 s.2 s.3 r.inside))

pub finishes_within_read : (a : Inside) (op : ℕ) (o : OperationPrograms) → Standing (state_of a) → Read a op o → AllWithin (steps_of o.finishes.items) (length a.words.items)
finishes_within_read a op o s r = subst (λ x. AllWithin x (length a.words.items)) (read_finishes a op o r) (finishes_within (state_of a) s.0 s.1 s.2 op s.3 (below_n a op s.0 s.1 s.2 s.3 r.inside))

pub starts_small_read : (a : Inside) (op : ℕ) (o : OperationPrograms) → Standing (state_of a) → Read a op o → StaySmall after_start (steps_of o.starts.items) a.words.items
starts_small_read a op o s r = subst (λ x. StaySmall after_start x a.words.items) (read_starts a op o r) (starts_small (state_of a) s.0 s.1 s.2 op s.3 (below_n a op s.0 s.1 s.2 s.3 r.inside))

pub finishes_small_read : (a : Inside) (op : ℕ) (o : OperationPrograms) → Standing (state_of a) → Read a op o → StaySmall after_finish (steps_of o.finishes.items) a.words.items
finishes_small_read a op o s r = subst (λ x. StaySmall after_finish x a.words.items) (read_finishes a op o r) (finishes_small (state_of a) s.0 s.1 s.2 op s.3 (below_n a op s.0 s.1 s.2 s.3 r.inside))

-- what was read of how many calls run
number_read : (xs : List ℕ) (i x : ℕ) → i < length xs → x ≡ get_or xs i x → x ≡ get_or xs i 0
number_read [] i x lt is = absurd (omega arith)
number_read (y ∷ ys) zero x lt is = is
number_read (y ∷ ys) (suc i) x lt is = number_read ys i x (omega arith) is

pub running_read : (a : Inside) (op x : ℕ) → Standing (state_of a) → op < length a.operations.items → x ≡ get_or a.running.items op x → x ≡ get_or a.running.items op 0
running_read a op x s inside is = number_read a.running.items op x (omega (arith, s.3.counted, s.3.operations, inside, length-map a.operations.items (λ o. steps_of o.starts.items))) is

-- how many calls run is no more than 65,536
pub few_running : (a : Inside) (op : ℕ) → Standing (state_of a) → op < length a.operations.items → get_or a.running.items op 0 ≤ 65536
few_running a op s inside = let h = s.3 in
    omega (arith, h.running op (below_n a op s.0 s.1 s.2 h inside), starts_le op s.2, h.taken, h.few)

pub decides_read : (a : Inside) (op : ℕ) (o : OperationPrograms) (n : ℕ) (paths : List Path) (t : List Event) → StandsFor (state_of a) n paths t → Read a op o →
    Decides (all_have_room (steps_of o.starts.items) a.words.items) ((op < n) × MayStart paths op t)
decides_read a op o n paths t h r =
    let lt = below_n a op n paths t h r.inside in
    Decides-at (all_have_room (steps_of o.starts.items) a.words.items) (all_have_room (get_or (state_of a).starts op []) a.words.items)
    (ap (λ x. all_have_room x a.words.items) (sym (read_starts a op o r)))
    (Decides-like (all_have_room (get_or (state_of a).starts op []) a.words.items) (λ may. (lt, may)) (λ both. both.1) (may_start (state_of a) n paths t op h lt))

-- counters that are as after a start, or after a finish
pub record Started (a : Inside) (op : ℕ) (o : OperationPrograms) (b : State) : Type 0 where
  pub words : b.words ≡ after_all after_start (steps_of o.starts.items) a.words.items
  pub starts : b.starts ≡ (state_of a).starts
  pub finishes : b.finishes ≡ (state_of a).finishes
  pub running : b.running ≡ set a.running.items op (get_or a.running.items op 0 + 1)
  pub taken : b.taken ≡ a.taken + 1

pub record Finished (a : Inside) (op : ℕ) (o : OperationPrograms) (b : State) : Type 0 where
  pub words : b.words ≡ after_all after_finish (steps_of o.finishes.items) a.words.items
  pub starts : b.starts ≡ (state_of a).starts
  pub finishes : b.finishes ≡ (state_of a).finishes
  pub running : b.running ≡ set a.running.items op (get_or a.running.items op 0 - 1)
  pub taken : b.taken ≡ a.taken

same_state : (b : State) (words : List ℕ) (starts finishes : List (List (List Step))) (running : List ℕ) (taken : ℕ) →
    b.words ≡ words → b.starts ≡ starts → b.finishes ≡ finishes → b.running ≡ running → b.taken ≡ taken →
    record { words = words; starts = starts; finishes = finishes; running = running; taken = taken } ≡ b
same_state b words starts finishes running taken w s f r k = rw (← w, ← s, ← f, ← r, ← k) refl

pub stands_started : (a : Inside) (op : ℕ) (o : OperationPrograms) (n : ℕ) (paths : List Path) (t : List Event) (call : Call) (b : State) → StandsFor (state_of a) n paths t → Read a op o →
    call.operation ≡ op → a.taken < 65536 → IsFresh call.number t → all_have_room (steps_of o.starts.items) a.words.items ≡ true → Started a op o b → StandsFor b n paths (Start call ∷ t)
stands_started a op o n paths t call b h r same_op few fresh room is =
    let here : Read a call.operation o = subst (λ k. Read a k o) (sym same_op) r in
    let base = stands_after_start (state_of a) n paths t call h (below_n a call.operation n paths t h here.inside) few fresh (ap (λ x. all_have_room x a.words.items) (read_starts a call.operation o here) ∙ room) in
    subst (λ s. StandsFor s n paths (Start call ∷ t))
    (same_state b (after_all after_start (get_or (state_of a).starts call.operation []) a.words.items) (state_of a).starts (state_of a).finishes (set a.running.items call.operation (get_or a.running.items call.operation 0 + 1)) (a.taken + 1)
    (is.words ∙ ap (λ x. after_all after_start x a.words.items) (sym (read_starts a call.operation o here))) is.starts is.finishes
    (is.running ∙ ap (λ k. set a.running.items k (get_or a.running.items k 0 + 1)) (sym same_op)) is.taken) base

pub stands_finished : (a : Inside) (op : ℕ) (o : OperationPrograms) (n : ℕ) (paths : List Path) (t : List Event) (call : Call) (b : State) → StandsFor (state_of a) n paths t → Read a op o →
    call.operation ≡ op → IsAmong call (running_calls t) → Finished a op o b → StandsFor b n paths (End call ∷ t)
stands_finished a op o n paths t call b h r same_op among is =
    let here : Read a call.operation o = subst (λ k. Read a k o) (sym same_op) r in
    let base = stands_after_finish (state_of a) n paths t call h (below_n a call.operation n paths t h here.inside) among in
    subst (λ s. StandsFor s n paths (End call ∷ t))
    (same_state b (after_all after_finish (get_or (state_of a).finishes call.operation []) a.words.items) (state_of a).starts (state_of a).finishes (set a.running.items call.operation (get_or a.running.items call.operation 0 - 1)) a.taken
    (is.words ∙ ap (λ x. after_all after_finish x a.words.items) (sym (read_finishes a call.operation o here))) is.starts is.finishes
    (is.running ∙ ap (λ k. set a.running.items k (get_or a.running.items k 0 - 1)) (sym same_op)) is.taken) base

-- some trace goes on with this event
pub standing_started : (a : Inside) (op : ℕ) (o : OperationPrograms) (b : State) → Standing (state_of a) → Read a op o → a.taken < 65536 → all_have_room (steps_of o.starts.items) a.words.items ≡ true → Started a op o b → Standing b
standing_started a op o b s r few room is =
    let fresh = a_number_is_fresh s.2 in
    let call : Call = record { number = fresh.0; operation = op } in
    (s.0, s.1, Start call ∷ s.2, stands_started a op o s.0 s.1 s.2 call b s.3 r refl few fresh.1 room is)

pub standing_finished : (a : Inside) (op : ℕ) (o : OperationPrograms) (b : State) → Standing (state_of a) → Read a op o → 0 < get_or a.running.items op 0 → Finished a op o b → Standing b
standing_finished a op o b s r runs is =
    let h = s.3 in
    let found = a_call_runs op s.2 h.trace (omega (arith, runs, h.running op (below_n a op s.0 s.1 s.2 h r.inside))) in
    (s.0, s.1, End found.0 ∷ s.2, stands_finished a op o s.0 s.1 s.2 found.0 b h r found.1 found.2 is)

-- counters that were just made stand for no event
pub stands_new : (a : Inside) (n : ℕ) (paths : List Path) → AllZero a.words.items → length a.words.items ≡ all_slots paths → AllOnce paths →
    length a.operations.items ≡ n → AreCompiled paths a.operations.items → AllZero a.running.items → length a.running.items ≡ n → a.taken ≡ 0 → StandsFor (state_of a) n paths []
stands_new a n paths zeros fits once size each idle counted taken = record {
  trace = tt;
  satisfied = all_first paths;
  once = once;
  kept = all_zero_kept paths 0 a.words.items zeros;
  fits = omega (arith, fits);
  small = λ k. omega (arith, zeros k);
  operations = length-map a.operations.items (λ o. steps_of o.starts.items) ∙ size;
  start_programs = λ op lt. compiled_at (λ o. steps_of o.starts.items) a.operations.items op _ (omega (arith, size, lt)) (λ o. (each op o (omega (arith, size, lt))).start);
  finish_programs = λ op lt. compiled_at (λ o. steps_of o.finishes.items) a.operations.items op _ (omega (arith, size, lt)) (λ o. (each op o (omega (arith, size, lt))).finish);
  counted = counted;
  running = λ op lt. omega (arith, idle op);
  taken = taken;
  few = omega (arith, taken);
}

-- so of all paths, as they are compiled
pub stands_whole : (a : Inside) (n : ℕ) (paths : List Path) → AllZero a.words.items → length a.words.items ≡ all_slots (chosen [] 0 paths) → AllOnce (chosen [] 0 paths) →
    length a.operations.items ≡ n → AreCompiled (chosen [] 0 paths) a.operations.items → AllZero a.running.items → length a.running.items ≡ n → a.taken ≡ 0 → StandsFor (state_of a) n paths []
stands_whole a n paths zeros fits once size each idle counted taken =
    subst (λ all. StandsFor (state_of a) n all []) (whole_part 0 paths) (stands_new a n (chosen [] 0 paths) zeros fits once size each idle counted taken)
