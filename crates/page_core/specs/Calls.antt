-- Calls of a hand that come one after the other: those that read the pages of a list, and those that write pages.
use Rattle.std.specs.Prelude.{◌≡◌, ℕ, List, [], ◌∷◌, ◌++◌, Option, Some, None, Result, Ok, Err}
use Rattle.std.specs.Result.{IsErr}
use Rattle.device_core.specs.declared.hand.HandFault.{HandFault}
use Rattle.device_core.specs.declared.hand.Pen.{Pen}
use Rattle.device_core.specs.declared.hand.Stamp.{Stamp}
use Rattle.device_core.specs.Made.{Made, creates, appends, seals, discards, reads}
use Rattle.page_core.specs.declared.plan.PageWrite.{PageWrite}

-- from one hand to another these calls were made, in order
abbrev pub AreMade : {H : Type 0} → (H → Made → H → Type 0) → H → List Made → H → Type 0
AreMade makes old [] new = new ≡ old
AreMade {H} makes old (call ∷ calls) new = (between : H) × makes old call between × AreMade makes between calls new

-- Each of these calls reads a whole page of this list: the first one its first page, and so on. One that failed is the
-- last.
abbrev pub ReadInOrder : List Stamp → List Made → Type 0
ReadInOrder pages [] = Unit {0}
ReadInOrder [] (call ∷ calls) = ⊥
ReadInOrder (page ∷ pages) (call ∷ calls) =
    ((bytes : List ℕ) × (answer : Result (Unit {0}) HandFault) × (call ≡ reads page 0 bytes answer)
    × (IsErr answer → calls ≡ [])) × ReadInOrder pages calls

-- The calls that write a file of these bytes, and what comes of it: one call of each kind, up to one that failed. After
-- that one the file is given up, where it was begun.
pub data WritesFile (bytes : List ℕ) : List Made → Result Stamp HandFault → Type 0 where
  written : (pen last : Pen) (stamp : Stamp) → last.number ≡ pen.number →
      WritesFile bytes (creates (Ok pen) ∷ appends pen.number bytes (Ok tt) ∷ seals last (Ok stamp) ∷ []) (Ok stamp)
  not_begun : (fault : HandFault) → WritesFile bytes (creates (Err fault) ∷ []) (Err fault)
  not_added : (pen last : Pen) (fault : HandFault) → last.number ≡ pen.number →
      WritesFile bytes (creates (Ok pen) ∷ appends pen.number bytes (Err fault) ∷ discards last ∷ []) (Err fault)
  not_sealed : (pen last back : Pen) (fault : HandFault) → last.number ≡ pen.number → back.number ≡ pen.number →
      WritesFile bytes
      (creates (Ok pen) ∷ appends pen.number bytes (Ok tt) ∷ seals last (Err (back, fault)) ∷ discards back ∷ [])
      (Err fault)

-- The calls that write pages, each into a file of its own, in order, up to one that failed: the files that they sealed,
-- in order, and the fault that ended them, if there was one.
pub data WritesPages : List PageWrite → List Made → List Stamp → Option HandFault → Type 0 where
  all : WritesPages [] [] [] None
  next : (write : PageWrite) (writes : List PageWrite) (first rest : List Made) (stamp : Stamp) (sealed : List Stamp)
      (fault : Option HandFault) → WritesFile write.bytes first (Ok stamp) → WritesPages writes rest sealed fault →
      WritesPages (write ∷ writes) (first ++ rest) (stamp ∷ sealed) fault
  stops : (write : PageWrite) (writes : List PageWrite) (calls : List Made) (fault : HandFault) →
      WritesFile write.bytes calls (Err fault) → WritesPages (write ∷ writes) calls [] (Some fault)
