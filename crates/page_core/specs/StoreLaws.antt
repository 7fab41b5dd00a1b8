-- A law of spellings. It speaks of values alone and belongs to value_core.
use Rattle.std.specs.Prelude.{ℕ, ◌<◌, ◌≤◌, List, length}
use Rattle.value_core.specs.declared.kind.Kind.{Kind}
use Rattle.value_core.specs.Contents.{Contents}
use Rattle.value_bytes.specs.Spelling.{Spells}

-- A spelling has a byte, and at most 2,052,100 of them: a header of 4, and 1,024 rows of two texts, each of 1,000 bytes
-- and two for its length. 8 pages of 262,144 bytes hold them.
abbrev pub SpellingsFit : Type 0
SpellingsFit =
    (bytes : List ℕ) (kind : Kind) (value : Contents) → Spells bytes kind value →
    (0 < length bytes) × (length bytes ≤ 2052100)
