-- The programs of the paths of an object, and the counters of all of them.
use Rattle.path_tree.specs.Path.{Path}
use Rattle.std.specs.Prelude.{ℕ, ◌+◌, ◌<◌, ◌^◌, ◌&&◌, Bool, true, if◌then◌else◌, List, [], ◌∷◌, slice_index}
use Rattle.path_tree.specs.Names.{names, NamesOnce}
use Rattle.path_tree.specs.Trace.{Event}
use Rattle.path_count.specs.declared.program.Step.{Step}
use Rattle.path_count.specs.Program.{slots, has_room, AreWithin}
use Rattle.path_count.specs.Kept.{Kept}

-- how many counters the paths have
abbrev pub all_slots : List Path → ℕ
all_slots [] = 0
all_slots (p ∷ paths) = slots p + all_slots paths

-- for each path that names the operation, its steps there
abbrev pub programs_of : (Path → ℕ → ℕ → List Step) → List Path → ℕ → ℕ → List (List Step)
programs_of steps [] at op = []
programs_of steps (p ∷ paths) at op =
    if names p op then steps p at op ∷ programs_of steps paths (at + slots p) op
    else programs_of steps paths (at + slots p) op

-- each program admits the start
abbrev pub all_have_room : List (List Step) → List ℕ → Bool
all_have_room [] w = true
all_have_room (steps ∷ programs) w = has_room steps w && all_have_room programs w

-- the counters after each program in turn
abbrev pub after_all : (List Step → List ℕ → List ℕ) → List (List Step) → List ℕ → List ℕ
after_all after [] w = w
after_all after (steps ∷ programs) w = after_all after programs (after steps w)

-- on the way no counter grows large
abbrev pub StaySmall : (List Step → List ℕ → List ℕ) → List (List Step) → List ℕ → Type 0
StaySmall after [] w = Unit {0}
StaySmall after (steps ∷ programs) w = ((k : ℕ) → slice_index w k < 2 ^ 32) × StaySmall after programs (after steps w)

-- the counters of each path keep what a trace has done
abbrev pub KeptAll : List Path → ℕ → List ℕ → List Event → Type 0
KeptAll [] at w t = Unit {0}
KeptAll (p ∷ paths) at w t = Kept p at w t × KeptAll paths (at + slots p) w t

-- each path names an operation once
abbrev pub AllOnce : List Path → Type 0
AllOnce [] = Unit {0}
AllOnce (p ∷ paths) = NamesOnce p × AllOnce paths

-- each program uses counters of this many
abbrev pub AllWithin : List (List Step) → ℕ → Type 0
AllWithin [] size = Unit {0}
AllWithin (steps ∷ programs) size = AreWithin steps size × AllWithin programs size
