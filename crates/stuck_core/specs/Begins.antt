-- Whether a start begins an activation of a tree, by what its counters hold.
use Rattle.std.specs.Prelude.{ℕ, ◌+◌, ◌==◌, ◌&&◌, ◌||◌, Bool, List, slice_index}
use Rattle.path_tree.specs.Path.{Path, Paths, name, list, sequence, bound, burst, two, more}
use Rattle.path_count.specs.Program.{slots}

-- a burst begins where nothing in it is open, a list with each of its members, and a sequence with its first one
abbrev mutual
  pub begins : Path → ℕ → ℕ → List ℕ → Bool
  begins (name o) at op w = op == o
  begins (list ms) at op w = some_begins ms at op w
  begins (sequence ms) at op w = first_begins ms at op w
  begins (bound n e) at op w = begins e (at + 1) op w
  begins (burst e) at op w = begins e (at + 1) op w && (slice_index w at == 0)

  pub some_begins : Paths → ℕ → ℕ → List ℕ → Bool
  some_begins (two a b) at op w = begins a (at + 1) op w || begins b ((at + 1) + slots a) op w
  some_begins (more a rest) at op w = begins a (at + 1) op w || some_begins rest ((at + 1) + slots a) op w

  pub first_begins : Paths → ℕ → ℕ → List ℕ → Bool
  first_begins (two a b) at op w = begins a (at + 1) op w
  first_begins (more a rest) at op w = begins a (at + 1) op w
