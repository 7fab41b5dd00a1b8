-- Before any event: every path is satisfied, and zeros keep what was done.
use Rattle.std.proofs.Common.{◌≡◌, ℕ, ◌+◌, List, [], ◌∷◌, refl, arith}
use Rattle.path_tree.specs.Path.{Path, Paths, name, list, sequence, bound, burst, two, more}
use Rattle.path_tree.specs.Counts.{ended, sum_ended, last_ended}
use Rattle.path_tree.specs.Satisfies.{Holds, EachHolds, InTurn, SatisfiesAll}
use Rattle.path_tree.proofs.CountLaws.{none_begun, none_first}
use Rattle.path_count.specs.Program.{slots}
use Rattle.path_count.specs.Kept.{Kept, KeptEach, KeptTurns}
use Rattle.path_count.specs.Object.{KeptAll}
use Rattle.path_count.specs.Steps.{AllZero}

mutual
  none_ended : (e : Path) → ended e [] ≡ 0
  none_ended (name op) = refl
  none_ended (list ms) = none_ended_of ms
  none_ended (sequence ms) = none_ended_last ms
  none_ended (bound n e) = none_ended e
  none_ended (burst e) = refl

  pub none_ended_of : (ms : Paths) → sum_ended ms [] ≡ 0
  none_ended_of (two a b) = omega (arith, none_ended a, none_ended b)
  none_ended_of (more a rest) = omega (arith, none_ended a, none_ended_of rest)

  none_ended_last : (ms : Paths) → last_ended ms [] ≡ 0
  none_ended_last (two a b) = none_ended b
  none_ended_last (more a rest) = none_ended_last rest

mutual
  holds_first : (e : Path) → Holds e []
  holds_first (name op) = tt
  holds_first (list ms) = each_first ms
  holds_first (sequence ms) = (each_first ms, turn_first ms)
  holds_first (bound n e) = (holds_first e, omega (arith, none_begun e))
  holds_first (burst e) = holds_first e

  each_first : (ms : Paths) → EachHolds ms []
  each_first (two a b) = (holds_first a, holds_first b)
  each_first (more a rest) = (holds_first a, each_first rest)

  turn_first : (ms : Paths) → InTurn ms []
  turn_first (two a b) = omega (arith, none_begun b)
  turn_first (more a rest) = (omega (arith, none_first rest), turn_first rest)

pub all_first : (paths : List Path) → SatisfiesAll paths []
all_first [] = tt
all_first (p ∷ paths) = (holds_first p, all_first paths)

mutual
  zero_kept : (e : Path) (at : ℕ) (w : List ℕ) → AllZero w → Kept e at w []
  zero_kept (name o) at w zeros = tt
  zero_kept (list ms) at w zeros = zero_each ms at w zeros
  zero_kept (sequence ms) at w zeros = zero_turns ms at w zeros
  zero_kept (bound n e) at w zeros = (omega (arith, zeros at, none_begun e), zero_kept e (at + 1) w zeros)
  zero_kept (burst e) at w zeros = (omega (arith, zeros at, none_begun e), zero_kept e (at + 1) w zeros)

  zero_each : (ms : Paths) (at : ℕ) (w : List ℕ) → AllZero w → KeptEach ms at w []
  zero_each (two a b) at w zeros = (zero_kept a (at + 1) w zeros, zero_kept b ((at + 1) + slots a) w zeros)
  zero_each (more a rest) at w zeros = (zero_kept a (at + 1) w zeros, zero_each rest ((at + 1) + slots a) w zeros)

  zero_turns : (ms : Paths) (at : ℕ) (w : List ℕ) → AllZero w → KeptTurns ms at w []
  zero_turns (two a b) at w zeros = (omega (arith, zeros at, none_ended a), zero_kept a (at + 1) w zeros, zero_kept b ((at + 1) + slots a) w zeros)
  zero_turns (more a rest) at w zeros = (omega (arith, zeros at, none_ended a), zero_kept a (at + 1) w zeros, zero_turns rest ((at + 1) + slots a) w zeros)

pub all_zero_kept : (paths : List Path) (at : ℕ) (w : List ℕ) → AllZero w → KeptAll paths at w []
all_zero_kept [] at w zeros = tt
all_zero_kept (p ∷ paths) at w zeros = (zero_kept p at w zeros, all_zero_kept paths (at + slots p) w zeros)
