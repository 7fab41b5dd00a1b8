-- What is seen of a server from outside, the newest first.
use Rattle.std.specs.Prelude.{◌≡◌, ℕ, ◌+◌, Bool, true, false, Option, Some, None, List, [], ◌∷◌, ◌++◌, if◌then◌else◌, ◌==◌}
use Rattle.keep_loop.specs.Turns.{is_joining}
use Rattle.keep_loop.specs.declared.outside.ReadEnd.{ReadEnd}
use Rattle.keep_loop.specs.declared.outside.ReadEnd.TheVariants as reads
use Rattle.keep_loop.specs.declared.served.Note.{Note}

-- bytes of a connection came; its input ended; it broke; bytes were written to it; a note; lines were handed to a journal;
-- it was stored; it began anew
pub data Happened : Type 0 where
  Came : (who : ℕ) → (bytes : List ℕ) → Happened
  Ended : (who : ℕ) → Happened
  Broke : (who : ℕ) → Happened
  Wrote : (who : ℕ) → (bytes : List ℕ) → Happened
  Noticed : (note : Note) → Happened
  Added : (journal : ℕ) → (lines : List ℕ) → Happened
  Stored : (journal : ℕ) → Happened
  Changed : (journal : ℕ) → (front : List ℕ) → Happened

-- what a read saw
abbrev pub read_of : ℕ → List ℕ → ReadEnd → Happened
read_of who bytes reads.More = Came who bytes
read_of who bytes reads.NoMore = Came who bytes
read_of who bytes reads.Ended = Ended who
read_of who bytes reads.Broken = Broke who

-- what a connection said
abbrev pub came_from : ℕ → List Happened → List ℕ
came_from c [] = []
came_from c (Came who bytes ∷ seen) = came_from c seen ++ (if who == c then bytes else [])
came_from c (Ended who ∷ seen) = came_from c seen
came_from c (Broke who ∷ seen) = came_from c seen
came_from c (Wrote who bytes ∷ seen) = came_from c seen
came_from c (Noticed note ∷ seen) = came_from c seen
came_from c (Added journal lines ∷ seen) = came_from c seen
came_from c (Stored journal ∷ seen) = came_from c seen
came_from c (Changed journal front ∷ seen) = came_from c seen

-- how often it was seen to have ended
abbrev pub ended_in : ℕ → List Happened → ℕ
ended_in c [] = 0
ended_in c (Came who bytes ∷ seen) = ended_in c seen
ended_in c (Ended who ∷ seen) = (if who == c then 1 else 0) + ended_in c seen
ended_in c (Broke who ∷ seen) = ended_in c seen
ended_in c (Wrote who bytes ∷ seen) = ended_in c seen
ended_in c (Noticed note ∷ seen) = ended_in c seen
ended_in c (Added journal lines ∷ seen) = ended_in c seen
ended_in c (Stored journal ∷ seen) = ended_in c seen
ended_in c (Changed journal front ∷ seen) = ended_in c seen

-- what a connection was written
abbrev pub written_to : ℕ → List Happened → List ℕ
written_to c [] = []
written_to c (Came who bytes ∷ seen) = written_to c seen
written_to c (Ended who ∷ seen) = written_to c seen
written_to c (Broke who ∷ seen) = written_to c seen
written_to c (Wrote who bytes ∷ seen) = written_to c seen ++ (if who == c then bytes else [])
written_to c (Noticed note ∷ seen) = written_to c seen
written_to c (Added journal lines ∷ seen) = written_to c seen
written_to c (Stored journal ∷ seen) = written_to c seen
written_to c (Changed journal front ∷ seen) = written_to c seen

-- the notes, in order
abbrev pub notes_in : List Happened → List Note
notes_in [] = []
notes_in (Came who bytes ∷ seen) = notes_in seen
notes_in (Ended who ∷ seen) = notes_in seen
notes_in (Broke who ∷ seen) = notes_in seen
notes_in (Wrote who bytes ∷ seen) = notes_in seen
notes_in (Noticed note ∷ seen) = notes_in seen ++ note ∷ []
notes_in (Added journal lines ∷ seen) = notes_in seen
notes_in (Stored journal ∷ seen) = notes_in seen
notes_in (Changed journal front ∷ seen) = notes_in seen

-- the lines that a journal was handed
abbrev pub added_in : ℕ → List Happened → List ℕ
added_in j [] = []
added_in j (Came who bytes ∷ seen) = added_in j seen
added_in j (Ended who ∷ seen) = added_in j seen
added_in j (Broke who ∷ seen) = added_in j seen
added_in j (Wrote who bytes ∷ seen) = added_in j seen
added_in j (Noticed note ∷ seen) = added_in j seen
added_in j (Added journal lines ∷ seen) = added_in j seen ++ (if journal == j then lines else [])
added_in j (Stored journal ∷ seen) = added_in j seen
added_in j (Changed journal front ∷ seen) = added_in j seen

-- those that are on the disk for certain
abbrev pub stored_in : ℕ → List Happened → List ℕ
stored_in j [] = []
stored_in j (Came who bytes ∷ seen) = stored_in j seen
stored_in j (Ended who ∷ seen) = stored_in j seen
stored_in j (Broke who ∷ seen) = stored_in j seen
stored_in j (Wrote who bytes ∷ seen) = stored_in j seen
stored_in j (Noticed note ∷ seen) = stored_in j seen
stored_in j (Added journal lines ∷ seen) = stored_in j seen
stored_in j (Stored journal ∷ seen) = if journal == j then added_in j seen else stored_in j seen
stored_in j (Changed journal front ∷ seen) = stored_in j seen

-- the lines for which an answer waits: those that are stored, or, where none waits for the disk, all
abbrev pub kept_in : Bool → ℕ → List Happened → List ℕ
kept_in waits j seen = if waits then stored_in j seen else added_in j seen

-- how often a connection of this number came
abbrev pub comings : ℕ → List Note → ℕ
comings c [] = 0
comings c (note ∷ notes) = (if is_joining c note then 1 else 0) + comings c notes

-- at each moment
abbrev pub Always : (List Happened → Type 0) → List Happened → Type 0
Always P [] = P []
Always P (e ∷ seen) = P (e ∷ seen) × Always P seen

-- an event more: where what was seen is known, it was known before. A real connection tells nothing (None), and one in memory
-- may have no memory to go on telling
abbrev pub Grows : Happened → Option (List Happened) → Option (List Happened) → Type 0
Grows e old None = Unit {0}
Grows e old (Some seen) = (before : List Happened) × (old ≡ Some before) × (seen ≡ e ∷ before)

-- the event happened, or nothing did
abbrev pub GrowsIf : Bool → Happened → Option (List Happened) → Option (List Happened) → Type 0
GrowsIf true e old new = Grows e old new
GrowsIf false e old new = new ≡ old
