-- What a crash leaves.
use Rattle.std.proofs.Common.{◌≡◌, ◌∙◌, ap, sym, ℕ, ◌<◌, List, ◌++◌, append_assoc, subst}
use Rattle.std.specs.Prelude.{true, if◌then◌else◌}
use Rattle.keep_loop.specs.Texts.{Begins}
use Rattle.keep_loop.specs.Turns.{added_by}
use Rattle.keep_loop.specs.Seen.{Happened, stored_in, added_in}
use Rattle.keep_loop.specs.Epochs.{Rules, before_in, since_in, stored_since}
use Rattle.keep_loop.specs.Stands.{IsHonest, IsBetween, Survives, SurvivesSince}
use Rattle.keep_loop.specs.declared.keep.LoopLimits.{LoopLimits}
use Rattle.keep_loop.proofs.Epochs.{handed_twice, stored_twice}
use Rattle.keep_loop.proofs.Turns.{begins_twice}

pub survives : {S : Type 0} (rules : Rules S) (first : S) (limits : LoopLimits) (seen : List Happened) (found : ℕ → List ℕ) → limits.waits ≡ true →
    IsHonest rules first limits seen → ((j : ℕ) → j < limits.journals → IsBetween (stored_in j seen) (added_in j seen) (found j)) → Survives rules.gives first limits seen found
survives rules first limits seen found waits h between = record {
  answered = h.kept_turns;
  later = h.later;
  last = h.last;
  runs = h.runs;
  heard = h.heard;
  written = h.written;
  all = λ j is. begins_twice (added_by j h.kept_turns) (stored_in j seen) (found j)
      (subst (λ w. Begins (added_by j h.kept_turns) (if w then stored_in j seen else added_in j seen)) waits (h.kept j is)) (between j is).all_stored;
  only = λ j is. begins_twice (found j) (added_in j seen) (added_by j (h.kept_turns ++ h.later)) (between j is).nothing_else (h.added j is);
}

pub survives_since : {S : Type 0} (rules : Rules S) (first : S) (limits : LoopLimits) (seen : List Happened) (found : ℕ → List ℕ) → limits.waits ≡ true →
    IsHonest rules first limits seen → ((j : ℕ) → j < limits.journals → IsBetween (stored_since j seen) (since_in j seen) (found j)) → SurvivesSince rules first limits seen found
unfolding survives
survives_since rules first limits seen found waits h between = record {
  survives = survives rules first limits seen (λ j. before_in j seen ++ found j) waits h (λ j is. all_between j (between j is));
  begun = h.begun;
}
  where
    begins_both : (a b c : List ℕ) → Begins b c → Begins (a ++ b) (a ++ c)
    begins_both a b c is = (is.0, ap (λ (l : List ℕ). a ++ l) is.1 ∙ sym (append_assoc a b is.0))

    all_between : (j : ℕ) → IsBetween (stored_since j seen) (since_in j seen) (found j) → IsBetween (stored_in j seen) (added_in j seen) (before_in j seen ++ found j)
    all_between j b = record {
      all_stored = begins_twice (stored_in j seen) (before_in j seen ++ stored_since j seen) (before_in j seen ++ found j) (stored_twice j seen)
          (begins_both (before_in j seen) (stored_since j seen) (found j) b.all_stored);
      nothing_else = subst (λ (l : List ℕ). Begins (before_in j seen ++ found j) l) (sym (handed_twice j seen)) (begins_both (before_in j seen) (found j) (since_in j seen) b.nothing_else);
    }
