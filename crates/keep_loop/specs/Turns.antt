-- One sequential history: what is asked of an object, one after the other, by whichever connections.
use Rattle.std.specs.Prelude.{◌≡◌, ℕ, Bool, false, ◌||◌, List, [], ◌∷◌, ◌++◌, if◌then◌else◌, ◌==◌}
use Rattle.keep_loop.specs.Texts.{to}
use Rattle.keep_loop.specs.declared.served.LineEnd.{LineEnd}
use Rattle.keep_loop.specs.declared.served.Note.{Note}
use Rattle.keep_loop.specs.declared.served.Note.TheVariants as notes

-- a line of a connection, and how it ended; a note; that a journal has begun anew with this front, or could not
pub data Asked : Type 0 where
  Heard : (who : ℕ) → (line : List ℕ) → (end : LineEnd) → Asked
  Noted : (note : Note) → Asked
  Changes : (journal : ℕ) → (front : List ℕ) → (went : Bool) → Asked

-- from a state, what is asked gives what is said, to whom, and lines that are added, to which journal, and leaves a state
abbrev pub Gives : Type 0 → Type 1
Gives S = S → Asked → List (ℕ × List ℕ) → List (ℕ × List ℕ) → S → Type 0

pub record Turn : Type 0 where
  pub asked : Asked
  pub said : List (ℕ × List ℕ)
  pub added : List (ℕ × List ℕ)

-- these turns, in order, lead from old to new
abbrev pub Runs : {S : Type 0} → Gives S → S → List Turn → S → Type 0
Runs gives old [] new = new ≡ old
Runs {S} gives old (t ∷ ts) new = (mid : S) × gives old t.asked t.said t.added mid × Runs gives mid ts new

abbrev pub is_joining : ℕ → Note → Bool
is_joining c (notes.Joins who) = who == c
is_joining c (notes.Leaves who) = false
is_joining c (notes.Ticks time) = false
is_joining c notes.Ends = false

-- a connection comes
abbrev pub joins : ℕ → Asked → Bool
joins c (Heard who line end) = false
joins c (Noted note) = is_joining c note
joins c (Changes journal front went) = false

-- what turns tell a connection that is there, or comes in one of them
abbrev pub told : Bool → ℕ → List Turn → List ℕ
told here c [] = []
told here c (t ∷ ts) = (if here || joins c t.asked then to c t.said else []) ++ told (here || joins c t.asked) c ts

-- what turns tell a connection, from its coming on
abbrev pub said_to : ℕ → List Turn → List ℕ
said_to c ts = told false c ts

abbrev pub line_from : ℕ → Asked → List (List ℕ × LineEnd)
line_from c (Heard who line end) = if who == c then (line, end) ∷ [] else []
line_from c (Noted note) = []
line_from c (Changes journal front went) = []

-- the lines that are heard of a connection
abbrev pub heard_of : ℕ → List Turn → List (List ℕ × LineEnd)
heard_of c [] = []
heard_of c (t ∷ ts) = line_from c t.asked ++ heard_of c ts

-- what turns add to a journal
abbrev pub added_by : ℕ → List Turn → List ℕ
added_by j [] = []
added_by j (t ∷ ts) = to j t.added ++ added_by j ts

abbrev pub note_of : Asked → List Note
note_of (Heard who line end) = []
note_of (Noted note) = note ∷ []
note_of (Changes journal front went) = []

-- the notes, in order
abbrev pub notes_by : List Turn → List Note
notes_by [] = []
notes_by (t ∷ ts) = note_of t.asked ++ notes_by ts

-- a connection has come in these turns
abbrev pub has_joined : ℕ → List Turn → Bool
has_joined c [] = false
has_joined c (t ∷ ts) = joins c t.asked || has_joined c ts
