-- Each step uses a counter of its path.
use Rattle.std.proofs.Common.{ℕ, ◌+◌, ◌<◌, ◌≤◌, [], ◌∷◌, ◌++◌, arith}
use Rattle.std.proofs.lemmas.List.Elements.{All-push, All-nil}
use Rattle.path_tree.specs.Path.{Path, Paths, name, list, sequence, bound, burst, two, more}
use Rattle.path_tree.specs.Names.{names}
use Rattle.path_count.specs.declared.program.Step.TheVariants as steps
use Rattle.path_count.specs.Program.{slots, slots_of, start_steps, list_start, turn_start, finish_steps, list_finish, turn_finish, AreWithin, slot_of}
use Rattle.path_count.proofs.PathWalk.{choose}

mutual
  pub start_within : (e : Path) (at op size : ℕ) → at + slots e ≤ size → AreWithin (start_steps e at op) size
  start_within (name o) at op size fits = All-nil (λ s. slot_of s < size)
  start_within (list ms) at op size fits = some_within ms at op size fits
  start_within (sequence ms) at op size fits = turn_within ms at op size fits
  start_within (bound n e) at op size fits = All-push (λ s. slot_of s < size) (start_steps e (at + 1) op) (steps.Bound at n) (start_within e (at + 1) op size (omega arith)) (omega arith)
  start_within (burst e) at op size fits = All-push (λ s. slot_of s < size) (start_steps e (at + 1) op) (steps.Burst at) (start_within e (at + 1) op size (omega arith)) (omega arith)

  some_within : (ms : Paths) (at op size : ℕ) → at + slots_of ms ≤ size → AreWithin (list_start ms at op) size
  some_within (two a b) at op size fits = choose (λ s. AreWithin s size) (names a op) (start_steps a (at + 1) op) (start_steps b ((at + 1) + slots a) op)
      (λ _. start_within a (at + 1) op size (omega arith)) (λ _. start_within b ((at + 1) + slots a) op size (omega arith))
  some_within (more a rest) at op size fits = choose (λ s. AreWithin s size) (names a op) (start_steps a (at + 1) op) (list_start rest ((at + 1) + slots a) op)
      (λ _. start_within a (at + 1) op size (omega arith)) (λ _. some_within rest ((at + 1) + slots a) op size (omega arith))

  turn_within : (ms : Paths) (at op size : ℕ) → at + slots_of ms ≤ size → AreWithin (turn_start ms at op) size
  turn_within (two a b) at op size fits = choose (λ s. AreWithin s size) (names a op) (start_steps a (at + 1) op) (start_steps b ((at + 1) + slots a) op ++ steps.Turn at ∷ [])
      (λ _. start_within a (at + 1) op size (omega arith))
      (λ _. All-push (λ s. slot_of s < size) (start_steps b ((at + 1) + slots a) op) (steps.Turn at) (start_within b ((at + 1) + slots a) op size (omega arith)) (omega arith))
  turn_within (more a rest) at op size fits = choose (λ s. AreWithin s size) (names a op) (start_steps a (at + 1) op) (turn_start rest ((at + 1) + slots a) op ++ steps.Turn at ∷ [])
      (λ _. start_within a (at + 1) op size (omega arith))
      (λ _. All-push (λ s. slot_of s < size) (turn_start rest ((at + 1) + slots a) op) (steps.Turn at) (turn_within rest ((at + 1) + slots a) op size (omega arith)) (omega arith))

mutual
  pub finish_within : (e : Path) (at op size : ℕ) → at + slots e ≤ size → AreWithin (finish_steps e at op) size
  finish_within (name o) at op size fits = All-nil (λ s. slot_of s < size)
  finish_within (list ms) at op size fits = some_finish_within ms at op size fits
  finish_within (sequence ms) at op size fits = turn_finish_within ms at op size fits
  finish_within (bound n e) at op size fits = All-push (λ s. slot_of s < size) (finish_steps e (at + 1) op) (steps.Bound at n) (finish_within e (at + 1) op size (omega arith)) (omega arith)
  finish_within (burst e) at op size fits = All-push (λ s. slot_of s < size) (finish_steps e (at + 1) op) (steps.Burst at) (finish_within e (at + 1) op size (omega arith)) (omega arith)

  some_finish_within : (ms : Paths) (at op size : ℕ) → at + slots_of ms ≤ size → AreWithin (list_finish ms at op) size
  some_finish_within (two a b) at op size fits = choose (λ s. AreWithin s size) (names a op) (finish_steps a (at + 1) op) (finish_steps b ((at + 1) + slots a) op)
      (λ _. finish_within a (at + 1) op size (omega arith)) (λ _. finish_within b ((at + 1) + slots a) op size (omega arith))
  some_finish_within (more a rest) at op size fits = choose (λ s. AreWithin s size) (names a op) (finish_steps a (at + 1) op) (list_finish rest ((at + 1) + slots a) op)
      (λ _. finish_within a (at + 1) op size (omega arith)) (λ _. some_finish_within rest ((at + 1) + slots a) op size (omega arith))

  turn_finish_within : (ms : Paths) (at op size : ℕ) → at + slots_of ms ≤ size → AreWithin (turn_finish ms at op) size
  turn_finish_within (two a b) at op size fits = choose (λ s. AreWithin s size) (names a op) (finish_steps a (at + 1) op ++ steps.Turn at ∷ []) (finish_steps b ((at + 1) + slots a) op)
      (λ _. All-push (λ s. slot_of s < size) (finish_steps a (at + 1) op) (steps.Turn at) (finish_within a (at + 1) op size (omega arith)) (omega arith))
      (λ _. finish_within b ((at + 1) + slots a) op size (omega arith))
  turn_finish_within (more a rest) at op size fits = choose (λ s. AreWithin s size) (names a op) (finish_steps a (at + 1) op ++ steps.Turn at ∷ []) (turn_finish rest ((at + 1) + slots a) op)
      (λ _. All-push (λ s. slot_of s < size) (finish_steps a (at + 1) op) (steps.Turn at) (finish_within a (at + 1) op size (omega arith)) (omega arith))
      (λ _. turn_finish_within rest ((at + 1) + slots a) op size (omega arith))
