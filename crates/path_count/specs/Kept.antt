-- Counters that keep what a trace has done.
use Rattle.std.specs.Prelude.{◌≡◌, ℕ, ◌+◌, ◌-◌, List, slice_index}
use Rattle.path_tree.specs.Path.{Path, Paths, name, list, sequence, bound, burst, two, more}
use Rattle.path_tree.specs.Trace.{Event}
use Rattle.path_tree.specs.Counts.{started, ended, first_started, active}
use Rattle.path_count.specs.Program.{slots}

-- Each bound and each burst counts what is open inside, and each comma of a sequence the finishes
-- that no start has used. The counters of a node lie from the given place on.
abbrev mutual
  pub Kept : Path → ℕ → List ℕ → List Event → Type 0
  Kept (name o) at w t = Unit {0}
  Kept (list ms) at w t = KeptEach ms at w t
  Kept (sequence ms) at w t = KeptTurns ms at w t
  Kept (bound n e) at w t = (slice_index w at ≡ active e t) × Kept e (at + 1) w t
  Kept (burst e) at w t = (slice_index w at ≡ active e t) × Kept e (at + 1) w t

  pub KeptEach : Paths → ℕ → List ℕ → List Event → Type 0
  KeptEach (two a b) at w t = Kept a (at + 1) w t × Kept b ((at + 1) + slots a) w t
  KeptEach (more a rest) at w t = Kept a (at + 1) w t × KeptEach rest ((at + 1) + slots a) w t

  pub KeptTurns : Paths → ℕ → List ℕ → List Event → Type 0
  KeptTurns (two a b) at w t =
      (slice_index w at ≡ ended a t - started b t) × Kept a (at + 1) w t × Kept b ((at + 1) + slots a) w t
  KeptTurns (more a rest) at w t =
      (slice_index w at ≡ ended a t - first_started rest t) × Kept a (at + 1) w t
      × KeptTurns rest ((at + 1) + slots a) w t
