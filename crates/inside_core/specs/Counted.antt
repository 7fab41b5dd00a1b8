-- What the nodes of paths have counted, as it is told.
use Rattle.std.specs.Prelude.{ℕ, ◌+◌, ◌-◌, nat_lt, if◌then◌else◌, List, [], ◌∷◌, ◌++◌, codes, decimal, flat_map, length, slice_index}
use Rattle.path_tree.specs.Path.{Path, Paths, name, list, sequence, bound, burst, two, more}
use Rattle.path_tree.specs.Limits.{node_count}
use Rattle.path_count.specs.Program.{slots}
use Rattle.live_core.specs.Scene.{Scene}
use Rattle.inside_core.specs.Metrics.{head, label_text, sample_text}
use Rattle.inside_core.specs.declared.metric.MetricKind.TheVariants.{Gauge}

-- where a node is: its object, the number of its path, from 1, and its own, from 0
abbrev pub node_place : List ℕ → ℕ → ℕ → List ℕ
node_place object path node =
    label_text (codes "pathserve_node{object=\"") object ++ (codes ",path=\"" ++ decimal path) ++ (codes "\",node=\"" ++ decimal node)

-- so many activations of what a bound or a burst has are open
abbrev pub node_line : List ℕ → ℕ → ℕ → ℕ → List ℕ
node_line object path node count = node_place object path node ++ sample_text (codes "\"} ") count

-- so many ends of what stands before the semicolon of a number, from 1, no start behind it has used
abbrev pub turn_line : List ℕ → ℕ → ℕ → ℕ → ℕ → List ℕ
turn_line object path node turn count =
    node_place object path node ++ (codes "\",turn=\"" ++ decimal turn) ++ sample_text (codes "\"} ") count

-- of a tree whose counters lie from a place on, and whose nodes are counted from a number on
abbrev mutual
  pub node_text : List ℕ → Path → ℕ → ℕ → ℕ → List ℕ → List ℕ
  node_text object (name o) path at k w = []
  node_text object (list ms) path at k w = each_text object ms path at (k + 1) w
  node_text object (sequence ms) path at k w =
      turns_text object ms path at k 1 w ++ each_text object ms path at (k + 1) w
  node_text object (bound n e) path at k w =
      node_line object path k (slice_index w at) ++ node_text object e path (at + 1) (k + 1) w
  node_text object (burst e) path at k w =
      node_line object path k (slice_index w at) ++ node_text object e path (at + 1) (k + 1) w

  pub each_text : List ℕ → Paths → ℕ → ℕ → ℕ → List ℕ → List ℕ
  each_text object (two a b) path at k w =
      node_text object a path (at + 1) k w ++ node_text object b path ((at + 1) + slots a) (k + node_count a) w
  each_text object (more a rest) path at k w =
      node_text object a path (at + 1) k w ++ each_text object rest path ((at + 1) + slots a) (k + node_count a) w

  pub turns_text : List ℕ → Paths → ℕ → ℕ → ℕ → ℕ → List ℕ → List ℕ
  turns_text object (two a b) path at k j w = turn_line object path k j (slice_index w at)
  turns_text object (more a rest) path at k j w =
      turn_line object path k j (slice_index w at) ++ turns_text object rest path ((at + 1) + slots a) k (j + 1) w

-- of paths that are counted from a number on, as far as their counters are there
abbrev pub paths_text : List ℕ → List Path → ℕ → ℕ → List ℕ → List ℕ
paths_text object [] i at w = []
paths_text object (p ∷ paths) i at w =
    if nat_lt (length w - at) (slots p) then []
    else node_text object p i at 0 w ++ paths_text object paths (i + 1) (at + slots p) w

-- of an object, by what its counters hold
abbrev pub object_nodes : Scene → List ℕ
object_nodes s = paths_text s.hall.object.name s.hall.object.paths.items 1 0 s.hall.counters.words

abbrev pub nodes_text : List Scene → List ℕ
nodes_text objects =
    head (codes "pathserve_node") Gauge
    (codes "What a node of a path has counted: what is open of a bound or a burst, or the ends that a semicolon has left.")
    ++ flat_map object_nodes objects
