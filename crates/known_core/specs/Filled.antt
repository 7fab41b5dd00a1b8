-- Arrays of integers of which only some pages are known, as bytes.
use Rattle.std.specs.Prelude.{◌≡◌, ℕ, Bool, true, if◌then◌else◌, List, length}
use Rattle.value_core.specs.declared.kind.Elem.TheVariants as elem
use Rattle.value_core.specs.declared.kind.Kind.TheVariants as kind
use Rattle.value_core.specs.Contents.{Contents, kind_of, IsContents}
use Rattle.value_bytes.specs.Spelling.{Spells, spelling}
use Rattle.value_bytes.specs.Laws.{AreBytes}
use Rattle.apply_core.specs.Pages.{page_at, page_of}
use Rattle.known_core.specs.Known.{AgreeAt, KeepsAt}

-- an element is known where its page is
abbrev pub by_page : (ℕ → Bool) → ℕ → Bool
by_page pages i = pages (page_of i)

-- These bytes are the whole ones as far as is known: as many, the first page the same, and each
-- other page that is known.
pub record IsFilled (pages : ℕ → Bool) (filled whole : List ℕ) : Type 0 where
  pub long : length whole ≡ length filled
  pub bytes : AreBytes whole
  pub read : AreBytes filled
  pub first : pages 0 ≡ true
  pub same : (k : ℕ) → pages k ≡ true → page_at k whole ≡ page_at k filled

-- Where filled bytes spell an array of integers, so do the whole ones, whatever the pages are that are not known; and
-- the two arrays agree on what is known.
abbrev pub WholeIsSpelled : Type 0
WholeIsSpelled =
    (pages : ℕ → Bool) (n : ℕ) (filled whole : List ℕ) (seen : Contents) →
    Spells filled (kind.Array n elem.Integer) seen → IsFilled pages filled whole
    → (value : Contents) × Spells whole (kind.Array n elem.Integer) value × AgreeAt (by_page pages) seen value

-- Where whole bytes spell an array of integers, so do the filled ones: no damage is seen where there is none.
abbrev pub FilledIsSpelled : Type 0
FilledIsSpelled =
    (pages : ℕ → Bool) (n : ℕ) (filled whole : List ℕ) (value : Contents) →
    Spells whole (kind.Array n elem.Integer) value → IsFilled pages filled whole
    → (seen : Contents) × Spells filled (kind.Array n elem.Integer) seen

-- After a body that was done: a page that is known is that of what the body left of the filled bytes,
-- another one is as it was.
abbrev pub PagesAfter : Type 0
PagesAfter =
    (pages : ℕ → Bool) (n : ℕ) (whole left after : Contents) → kind_of left ≡ kind.Array n elem.Integer →
    IsContents left → IsContents whole → AgreeAt (by_page pages) left after → KeepsAt (by_page pages) whole after
    → (k : ℕ) → page_at k (spelling after) ≡ (if pages k then page_at k (spelling left) else page_at k (spelling whole))

-- what is left is contents, where both are that it is made of
abbrev pub ContentsAfter : Type 0
ContentsAfter =
    (known : ℕ → Bool) (whole left after : Contents) → IsContents left → IsContents whole → AgreeAt known left after →
    KeepsAt known whole after → IsContents after
