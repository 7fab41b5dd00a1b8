-- A journal that is in order, and what it holds.
use Rattle.std.specs.Prelude.{◌≡◌, ◌⊎◌, ◌≤◌, ◌<◌, ◌^◌, ◌+◌, ℕ, List, [], ◌∷◌, ◌++◌, length, take, Option, Some, bit_xor}
use Rattle.keep_loop.specs.Crc.{crc_more, crc_start}
use Rattle.keep_loop.specs.Journal.{recovered, Stands}
use Rattle.keep_loop.specs.Taken.{cut, since, check_line, stored_word, says_stored, IsChecked, AreRight, taken}
use Rattle.keep_loop.specs.declared.journal.Journal.{Journal}

-- a line that says how many bytes were stored says at most so many
abbrev pub SaysAtMost : ℕ → List ℕ → Type 0
SaysAtMost most line = (size : ℕ) (rest : List ℕ) → size < 2 ^ 64 → line ≡ says_stored size rest → size ≤ most

-- so does each of these lines
abbrev pub SayAtMost : ℕ → List (List ℕ) → Type 0
SayAtMost most [] = Unit {0}
SayAtMost most (line ∷ lines) = SaysAtMost most line × SayAtMost most lines

-- The lines of a file are as they were written; so are those that are on the disk, of which none says that more are. The
-- lines behind the last check line have this number
pub record Checks (file : List ℕ) (stored crc : ℕ) : Type 0 where
  pub on_disk : IsChecked (take stored file)
  pub right : AreRight [] (cut (recovered file))
  pub below : SayAtMost stored (cut (recovered file))
  pub crc_is : crc ≡ crc_more crc_start (since (cut (recovered file)))

-- a journal in order: where its file is known, it stands, and checks itself
pub record IsInOrder {D : Type 0} (seen : D → Option (List ℕ)) (may_leave : D → List ℕ → Type 0)
    (journal : Journal D) : Type 0 where
  pub fits : journal.size + journal.room + journal.checks < 2 ^ 63
  pub stands : (file : List ℕ) → seen journal.device ≡ Some file →
      Stands file (may_leave journal.device) journal.stored journal.size (journal.room + journal.checks)
  pub checks : (file : List ℕ) → seen journal.device ≡ Some file → Checks file journal.stored journal.crc

-- the lines that a journal's file tells, and those of them that are on the disk
pub record Holds {D : Type 0} (seen : D → Option (List ℕ)) (journal : Journal D) (stored lines : List ℕ) : Type 0 where
  pub file : List ℕ
  pub known : seen journal.device ≡ Some file
  pub lines_are : taken file ≡ lines
  pub stored_are : taken (take journal.stored file) ≡ stored

-- What is written next are the lines, and behind them the line that checks them, where there is room for it; then this is the
-- number of the lines since the last check line, and so much room is left
pub record Fills (lines : List ℕ) (stored crc checks : ℕ) (bytes : List ℕ) (next left : ℕ) : Type 0 where
  pub check : List ℕ
  pub bytes_are : bytes ≡ lines ++ check
  pub room : length check + left ≡ checks
  pub is : ((check ≡ []) × (next ≡ crc_more crc lines))
      ⊎ ((check ≡ check_line stored_word stored (bit_xor (crc_more crc lines) 0xFFFFFFFF)) × (next ≡ crc_start))
