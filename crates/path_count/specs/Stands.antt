-- Counters that stand for a trace.
use Rattle.path_tree.specs.Path.{Path}
use Rattle.std.specs.Prelude.{◌≡◌, ℕ, ◌+◌, ◌-◌, ◌<◌, ◌≤◌, List, [], ◌∷◌, slice_index, slice_index_or, length}
use Rattle.path_tree.specs.Trace.{Event, Start, End, starts, ends, IsTrace}
use Rattle.path_tree.specs.Satisfies.{SatisfiesAll}
use Rattle.path_count.specs.Object.{all_slots, programs_of, KeptAll, AllOnce}
use Rattle.path_count.specs.Program.{start_steps, finish_steps}
use Rattle.path_count.specs.State.{State}

-- how many calls have started
abbrev pub started_calls : List Event → ℕ
started_calls [] = 0
started_calls (Start call ∷ past) = 1 + started_calls past
started_calls (End call ∷ past) = started_calls past

-- the counters of an object of these paths, after this trace
pub record StandsFor (c : State) (n_ops : ℕ) (paths : List Path) (t : List Event) : Type 0 where
  pub trace : IsTrace t
  pub satisfied : SatisfiesAll paths t
  pub once : AllOnce paths
  pub kept : KeptAll paths 0 c.words t
  pub fits : all_slots paths ≤ length c.words
  pub small : (k : ℕ) → slice_index c.words k ≤ length t
  pub operations : length c.starts ≡ n_ops
  pub start_programs : (op : ℕ) → op < n_ops → slice_index_or c.starts op [] ≡ programs_of start_steps paths 0 op
  pub finish_programs : (op : ℕ) → op < n_ops → slice_index_or c.finishes op [] ≡ programs_of finish_steps paths 0 op
  pub counted : length c.running ≡ n_ops
  pub running : (op : ℕ) → op < n_ops → slice_index c.running op ≡ starts op t - ends op t
  pub taken : c.taken ≡ started_calls t
  pub few : c.taken ≤ 65536
