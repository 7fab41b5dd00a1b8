-- What nodes lack, by what their counters hold.
use Rattle.std.specs.Prelude.{ℕ, ◌+◌, ◌==◌, ◌&&◌, nat_lt, not, Bool, if◌then◌else◌, List, [], ◌∷◌, ◌++◌, slice_index}
use Rattle.path_tree.specs.Path.{Path, Paths, name, list, sequence, bound, burst, two, more}
use Rattle.path_tree.specs.Limits.{node_count}
use Rattle.path_count.specs.Program.{slots}
use Rattle.stuck_core.specs.Nodes.{enders}
use Rattle.stuck_core.specs.declared.reason.Lack.{Lack}
use Rattle.stuck_core.specs.declared.reason.Lack.TheVariants as lacks
use Rattle.stuck_core.specs.Begins.{begins, first_begins}
use Rattle.stuck_core.specs.Lacks.{Why}

-- one reason, where there is one
abbrev pub one_why : Bool → ℕ → ℕ → Lack → Path → List Why
one_why is path k lack e =
    if is then record { path = path; node = k; lack = lack; needs = enders e } ∷ [] else []

-- A start begins what is bounded or what comes next, and the counter at this place has no room, or no finish.
abbrev pub is_full : ℕ → Path → ℕ → ℕ → List ℕ → Bool
is_full n e at op w = begins e (at + 1) op w && not (nat_lt (slice_index w at) n)

abbrev pub is_used_up : Bool → ℕ → List ℕ → Bool
is_used_up begun at w = begun && (slice_index w at == 0)

-- of a tree whose counters lie from a place on, and whose nodes are counted from a number on
abbrev mutual
  pub whys : Path → ℕ → ℕ → ℕ → ℕ → List ℕ → List Why
  whys (name o) path at k op w = []
  whys (list ms) path at k op w = each_whys ms path at (k + 1) op w
  whys (sequence ms) path at k op w = turn_whys ms path at k 1 op w ++ each_whys ms path at (k + 1) op w
  whys (bound n e) path at k op w =
      one_why (is_full n e at op w) path k lacks.Full e ++ whys e path (at + 1) (k + 1) op w
  whys (burst e) path at k op w = whys e path (at + 1) (k + 1) op w

  pub each_whys : Paths → ℕ → ℕ → ℕ → ℕ → List ℕ → List Why
  each_whys (two a b) path at k op w =
      whys a path (at + 1) k op w ++ whys b path ((at + 1) + slots a) (k + node_count a) op w
  each_whys (more a rest) path at k op w =
      whys a path (at + 1) k op w ++ each_whys rest path ((at + 1) + slots a) (k + node_count a) op w

  pub turn_whys : Paths → ℕ → ℕ → ℕ → ℕ → ℕ → List ℕ → List Why
  turn_whys (two a b) path at k j op w =
      one_why (is_used_up (begins b ((at + 1) + slots a) op w) at w) path k (lacks.Turn j) a
  turn_whys (more a rest) path at k j op w =
      one_why (is_used_up (first_begins rest ((at + 1) + slots a) op w) at w) path k (lacks.Turn j) a
      ++ turn_whys rest path ((at + 1) + slots a) k (j + 1) op w

-- of paths that are counted from a number on
abbrev pub all_whys : List Path → ℕ → ℕ → ℕ → List ℕ → List Why
all_whys [] i at op w = []
all_whys (p ∷ paths) i at op w = whys p i at 0 op w ++ all_whys paths (i + 1) (at + slots p) op w
