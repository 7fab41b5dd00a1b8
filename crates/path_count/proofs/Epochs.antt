-- An epoch behind another past.
use Rattle.std.proofs.Common.{◌≡◌, ◌+◌, ℕ, List, [], ◌∷◌, ◌++◌, map, refl, ap, sym, ◌∙◌, subst}
use Rattle.path_tree.specs.Path.{Path, Paths, name, list, sequence, bound, burst, two, more}
use Rattle.path_tree.specs.Trace.{Event, Start, End, IsTrace, IsFresh, IsAmong, running_calls, without}
use Rattle.path_count.specs.Program.{slots}
use Rattle.path_count.specs.Kept.{Kept, KeptEach, KeptTurns}
use Rattle.path_count.specs.Object.{KeptAll}
use Rattle.path_count.specs.Future.{AreAlike, later, later_call, EpochsGoOn}
use Rattle.path_count.proofs.Future.{leave_both, joined_trace, running_later}

-- of what stands before a past in which nothing runs any more

front_fresh : (n : ℕ) (epoch past : List Event) → IsFresh n (epoch ++ past) → IsFresh n epoch
front_fresh n [] past fresh = tt
front_fresh n (Start call ∷ epoch) past fresh = (fresh.0, front_fresh n epoch past fresh.1)
front_fresh n (End call ∷ epoch) past fresh = front_fresh n epoch past fresh

pub front_running : (epoch past : List Event) → running_calls past ≡ [] → running_calls (epoch ++ past) ≡ running_calls epoch
front_running [] past quiet = quiet
front_running (Start call ∷ epoch) past quiet = ap (λ r. call ∷ r) (front_running epoch past quiet)
front_running (End call ∷ epoch) past quiet = ap (λ r. without call r) (front_running epoch past quiet)

pub front_trace : (epoch past : List Event) → running_calls past ≡ [] → IsTrace (epoch ++ past) → IsTrace epoch
front_trace [] past quiet trace = tt
front_trace (Start call ∷ epoch) past quiet trace =
    (front_fresh call.number epoch past trace.0, front_trace epoch past quiet trace.1)
front_trace (End call ∷ epoch) past quiet trace =
    (subst (λ r. IsAmong call r) (front_running epoch past quiet) trace.0, front_trace epoch past quiet trace.1)

alike_later : (base : ℕ) (events : List Event) → AreAlike events (later base events)
alike_later base [] = tt
alike_later base (Start call ∷ events) = (refl, alike_later base events)
alike_later base (End call ∷ events) = (refl, alike_later base events)

-- words that keep a trace keep each one that other words keep like it
mutual
  kept_for : (e : Path) (at : ℕ) (w v : List ℕ) (t s : List Event) → Kept e at w t → Kept e at w s → Kept e at v t → Kept e at v s
  kept_for (name o) at w v t s wt ws vt = tt
  kept_for (list ms) at w v t s wt ws vt = kept_for_each ms at w v t s wt ws vt
  kept_for (sequence ms) at w v t s wt ws vt = kept_for_turns ms at w v t s wt ws vt
  kept_for (bound n e) at w v t s wt ws vt = (vt.0 ∙ sym wt.0 ∙ ws.0, kept_for e (at + 1) w v t s wt.1 ws.1 vt.1)
  kept_for (burst e) at w v t s wt ws vt = (vt.0 ∙ sym wt.0 ∙ ws.0, kept_for e (at + 1) w v t s wt.1 ws.1 vt.1)

  kept_for_each : (ms : Paths) (at : ℕ) (w v : List ℕ) (t s : List Event) → KeptEach ms at w t → KeptEach ms at w s → KeptEach ms at v t → KeptEach ms at v s
  kept_for_each (two a b) at w v t s wt ws vt =
      (kept_for a (at + 1) w v t s wt.0 ws.0 vt.0, kept_for b ((at + 1) + slots a) w v t s wt.1 ws.1 vt.1)
  kept_for_each (more a rest) at w v t s wt ws vt =
      (kept_for a (at + 1) w v t s wt.0 ws.0 vt.0, kept_for_each rest ((at + 1) + slots a) w v t s wt.1 ws.1 vt.1)

  kept_for_turns : (ms : Paths) (at : ℕ) (w v : List ℕ) (t s : List Event) → KeptTurns ms at w t → KeptTurns ms at w s → KeptTurns ms at v t → KeptTurns ms at v s
  kept_for_turns (two a b) at w v t s wt ws vt =
      (vt.0 ∙ sym wt.0 ∙ ws.0, kept_for a (at + 1) w v t s wt.1 ws.1 vt.1, kept_for b ((at + 1) + slots a) w v t s wt.2 ws.2 vt.2)
  kept_for_turns (more a rest) at w v t s wt ws vt =
      (vt.0 ∙ sym wt.0 ∙ ws.0, kept_for a (at + 1) w v t s wt.1 ws.1 vt.1, kept_for_turns rest ((at + 1) + slots a) w v t s wt.2 ws.2 vt.2)

all_kept_for : (paths : List Path) (at : ℕ) (w v : List ℕ) (t s : List Event) → KeptAll paths at w t → KeptAll paths at w s → KeptAll paths at v t → KeptAll paths at v s
all_kept_for [] at w v t s wt ws vt = tt
all_kept_for (p ∷ paths) at w v t s wt ws vt =
    (kept_for p at w v t s wt.0 ws.0 vt.0, all_kept_for paths (at + slots p) w v t s wt.1 ws.1 vt.1)

pub epochs_go_on : EpochsGoOn
epochs_go_on paths words next most base epoch past other once fits one quiet behind numbers ends rest =
    let own = front_trace epoch past quiet ends.trace in
    let joined = joined_trace base most epoch other own numbers behind.leaves.trace behind.numbers behind.quiet in
    let both = leave_both paths words past other epoch (later base epoch) once fits one behind.leaves (alike_later base epoch) ends.trace joined ends.satisfied in (
      record {
        trace = joined;
        satisfied = both.other.satisfied;
        kept = all_kept_for paths 0 both.words next (epoch ++ past) (later base epoch ++ other) both.one.kept both.other.kept ends.kept;
      },
      running_later base epoch other behind.quiet ∙ ap (map (later_call base)) (sym (front_running epoch past quiet) ∙ rest),
    )
