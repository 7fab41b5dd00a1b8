-- What is written of an array of integers of which only some pages were read.
use Rattle.std.specs.Prelude.{◌≡◌, ℕ, Bool, List, length}
use Rattle.device_core.specs.declared.hand.Stamp.{Stamp}
use Rattle.apply_core.specs.Pages.{page_bytes}
use Rattle.known_core.specs.Filled.{IsFilled}
use Rattle.page_core.specs.declared.plan.PageWrite.{PageWrite}
use Rattle.page_core.specs.Cut.{lengths, together, AreFull}
use Rattle.page_core.specs.Bytes.{split_by, AreCutBy}
use Rattle.page_core.specs.Plans.{Plans}
use Rattle.run_core.specs.Wholes.{AreNewPages}

-- Which pages of it are written is told from what was read of it and from its new bytes. That is a plan of the whole
-- bytes: these are cut into as many pages, and the same stamps stay, the same pages are written, and the same files go.
abbrev pub PlansOfWholes : Type 0
PlansOfWholes =
    (pages : ℕ → Bool) (filled bytes before after : List ℕ) (place : ℕ) (olds : List Stamp) (here : List (List ℕ))
    (stamps : List Stamp) (writes : List PageWrite) (gone : List Stamp) → IsFilled pages filled before →
    AreNewPages pages filled bytes before after
    → AreFull page_bytes (lengths olds) → together (lengths olds) ≡ length before → AreCutBy page_bytes bytes here →
    Plans place olds (split_by (lengths olds) filled) here stamps writes gone
    → (there : List (List ℕ)) × AreCutBy page_bytes after there × (length there ≡ length here)
    × Plans place olds (split_by (lengths olds) before) there stamps writes gone
