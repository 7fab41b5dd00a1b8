-- The papers of a shelf in memory, seen as a finite map.
use Rattle.std.specs.Prelude.{ℕ, List, map}
use Rattle.std.specs.FinMap.{from_entries}
use Rattle.std.specs.Global.{Vec}
use Rattle.std.specs.BTreeMap.{BTreeMap}
use Rattle.device_core.specs.Papers.{Papers}

-- entries, as bytes
abbrev pub as_bytes : List (Vec ℕ × Vec ℕ) → List (List ℕ × List ℕ)
as_bytes es = map (λ e. (e.0.items, e.1.items)) es

-- what a map of the program has under each name
abbrev pub papers_of : BTreeMap (Vec ℕ) (Vec ℕ) → Papers
papers_of m = from_entries (as_bytes m.entries)
