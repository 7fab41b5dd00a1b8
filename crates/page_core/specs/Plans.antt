-- Which pages of a part are kept, which are written, and which files its list no longer has.
use Rattle.std.specs.Prelude.{◌≡◌, ◌≢◌, ℕ, ◌+◌, List, [], ◌∷◌, ◌++◌, length}
use Rattle.device_core.specs.declared.hand.Stamp.{Stamp}
use Rattle.page_core.specs.declared.plan.PageWrite.{PageWrite}
use Rattle.page_core.specs.declared.plan.Planned.{Planned}
use Rattle.page_core.specs.Bytes.{AreCutBy, split_by}
use Rattle.page_core.specs.Cut.{lengths}

-- From this place on: the old stamps with the bytes of their pages, the pages of the new bytes, the stamps of the new
-- list (in which any may stand where a page is written), what is written, and the stamps that go.
pub data Plans : ℕ → List Stamp → List (List ℕ) → List (List ℕ) → List Stamp → List PageWrite → List Stamp →
    Type 0 where
  -- there is no further page, and all old ones go
  ends : {place : ℕ} {olds : List Stamp} {befores : List (List ℕ)} → Plans place olds befores [] [] [] olds
  -- a page that is as it was keeps its stamp
  keeps : {place : ℕ} {olds : List Stamp} {befores pages : List (List ℕ)} {stamps : List Stamp}
      {writes : List PageWrite} {gone : List Stamp} (old : Stamp) (page : List ℕ)
      → Plans (place + 1) olds befores pages stamps writes gone →
      Plans place (old ∷ olds) (page ∷ befores) (page ∷ pages) (old ∷ stamps) writes gone
  -- one that differs is written, and its old stamp goes
  replaces : {place : ℕ} {olds : List Stamp} {befores pages : List (List ℕ)} {stamps : List Stamp} {gone : List Stamp}
      (old stamp : Stamp) (before page : List ℕ) (write : PageWrite) (writes : List PageWrite)
      → before ≢ page → write.place ≡ place → write.bytes ≡ page →
      Plans (place + 1) olds befores pages stamps writes gone
      → Plans place (old ∷ olds) (before ∷ befores) (page ∷ pages) (stamp ∷ stamps) (write ∷ writes) (old ∷ gone)
  -- one where there was none is written
  adds : {place : ℕ} {pages : List (List ℕ)} {stamps : List Stamp} {gone : List Stamp} (stamp : Stamp) (page : List ℕ)
      (write : PageWrite) (writes : List PageWrite)
      → write.place ≡ place → write.bytes ≡ page → Plans (place + 1) [] [] pages stamps writes gone
      → Plans place [] [] (page ∷ pages) (stamp ∷ stamps) (write ∷ writes) gone

-- what was added to three rows is the plan for a part: from its old stamps and its bytes before and after
pub record IsPlan (size : ℕ) (olds : List Stamp) (before after : List ℕ) (stamps : List Stamp)
    (stamps_after : List Stamp) (writes writes_after : List PageWrite) (gone gone_after : List Stamp) : Type 0 where
  pub pages : List (List ℕ)
  pub cut : AreCutBy size after pages
  pub more_stamps : List Stamp
  pub more_writes : List PageWrite
  pub more_gone : List Stamp
  pub stamps_are : stamps_after ≡ stamps ++ more_stamps
  pub writes_are : writes_after ≡ writes ++ more_writes
  pub gone_are : gone_after ≡ gone ++ more_gone
  pub plans : Plans (length stamps) olds (split_by (lengths olds) before) pages more_stamps more_writes more_gone

-- the same of what is planned, before and after
abbrev pub AddsPlan : ℕ → List Stamp → List ℕ → List ℕ → Planned → Planned → Type 0
AddsPlan size olds before after was now =
    IsPlan size olds before after was.stamps.items now.stamps.items was.writes.items now.writes.items was.gone.items
    now.gone.items
