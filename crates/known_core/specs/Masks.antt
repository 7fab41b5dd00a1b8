-- Which elements are known, by the pages that are.
use Rattle.std.specs.Prelude.{◌≡◌, ◌≢◌, ℕ, zero, suc, ◌+◌, ◌-◌, ◌==◌, List, slice_index}
use Rattle.std.specs.List.{sum_by}
use Rattle.std.specs.Int.{bit_at}
use Rattle.apply_core.specs.Pages.{page_of}
use Rattle.known_core.specs.Known.{Known}

-- bit k of the mask of a part stands for page k: an element is known where its page is
abbrev pub known_by : List ℕ → Known
known_by masks p i = bit_at (slice_index masks p) (page_of i) == 1

-- one page more is known: page k of part p, and no other
pub record IsOneMore (old new : List ℕ) (p k : ℕ) : Type 0 where
  pub set : bit_at (slice_index new p) k ≡ 1
  pub same : (j : ℕ) → j ≢ k → bit_at (slice_index new p) j ≡ bit_at (slice_index old p) j
  pub others : (q : ℕ) → q ≢ p → slice_index new q ≡ slice_index old q

-- how many of the first pages of a part are not known
abbrev pub missing : ℕ → ℕ → ℕ
missing zero mask = 0
missing (suc k) mask = missing k mask + (1 - bit_at mask k)

-- a part has at most so many pages
abbrev pub most_pages : ℕ
most_pages = 8

-- How many pages are not known: each page that is read takes one off, so no more are read than 8 of each of 16 parts.
abbrev pub unread : List ℕ → ℕ
unread masks = sum_by (missing most_pages) masks
