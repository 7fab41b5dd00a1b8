-- How often a node of a path has begun and ended.
use Rattle.std.specs.Prelude.{ℕ, ◌+◌, ◌-◌, ◌==◌, ◌&&◌, nat_lt, if◌then◌else◌, List, [], ◌∷◌}
use Rattle.path_tree.specs.Path.{Path, Paths, name, list, sequence, bound, burst, two, more}
use Rattle.path_tree.specs.Trace.{Event, starts, ends}

-- at how many of its positions a count rises from 0
abbrev pub rises : (List Event → ℕ) → List Event → ℕ
rises f [] = 0
rises f (e ∷ past) = (if (f past == 0) && nat_lt 0 (f (e ∷ past)) then 1 else 0) + rises f past

-- at how many of its positions a count falls to 0
abbrev pub falls : (List Event → ℕ) → List Event → ℕ
falls f [] = 0
falls f (e ∷ past) = (if nat_lt 0 (f past) && (f (e ∷ past) == 0) then 1 else 0) + falls f past

abbrev mutual
  pub started : Path → List Event → ℕ
  started (name op) t = starts op t
  started (list ms) t = sum_started ms t
  started (sequence ms) t = first_started ms t
  started (bound n e) t = started e t
  started (burst e) t = rises (λ past. started e past - ended e past) t

  pub ended : Path → List Event → ℕ
  ended (name op) t = ends op t
  ended (list ms) t = sum_ended ms t
  ended (sequence ms) t = last_ended ms t
  ended (bound n e) t = ended e t
  ended (burst e) t = falls (λ past. started e past - ended e past) t

  pub sum_started : Paths → List Event → ℕ
  sum_started (two a b) t = started a t + started b t
  sum_started (more a rest) t = started a t + sum_started rest t

  pub sum_ended : Paths → List Event → ℕ
  sum_ended (two a b) t = ended a t + ended b t
  sum_ended (more a rest) t = ended a t + sum_ended rest t

  pub first_started : Paths → List Event → ℕ
  first_started (two a b) t = started a t
  first_started (more a rest) t = started a t

  pub last_ended : Paths → List Event → ℕ
  last_ended (two a b) t = ended b t
  last_ended (more a rest) t = last_ended rest t

-- how many activations of a node are open
abbrev pub active : Path → List Event → ℕ
active e t = started e t - ended e t
