-- The answer to `who`.
use Rattle.std.specs.Prelude.{ℕ, ◌+◌, List, [], ◌∷◌, ◌++◌, Option, Some, None, map, flat_map, sum, length, codes, decimal}
use Rattle.decl_core.specs.ObjectForm.{ObjectForm}
use Rattle.word_core.specs.Words.{Word, bare, line_of}
use Rattle.word_core.specs.Data.{session_word}
use Rattle.stuck_core.specs.Lacks.{Why}
use Rattle.stuck_core.specs.Why.{name_word, node_words}
use Rattle.stuck_core.specs.declared.who.SessionRow.{SessionRow}
use Rattle.stuck_core.specs.declared.who.WaitingRow.{WaitingRow}

-- `who L`
abbrev pub who_line : ℕ → List ℕ
who_line lines = line_of (bare (codes "who") ∷ bare (decimal lines) ∷ [])

-- `name NAME`, where there is one
abbrev pub client_words : Option (List ℕ) → List Word
client_words None = []
client_words (Some name) = bare (codes "name") ∷ bare name ∷ []

-- `for T`, where it is known
abbrev pub time_words : Option ℕ → List Word
time_words None = []
time_words (Some seconds) = bare (codes "for") ∷ bare (decimal seconds) ∷ []

-- `session sS`, and for how long it is there
abbrev pub seat_words : SessionRow → List Word
seat_words seat = bare (codes "session") ∷ session_word seat.session ∷ time_words seat.seconds

-- `calls C`, and the name
abbrev pub count_words : ℕ → Option (List ℕ) → List Word
count_words calls name = bare (codes "calls") ∷ bare (decimal calls) ∷ client_words name

abbrev pub seat_line : SessionRow → Option (List ℕ) → List ℕ
seat_line seat name = line_of (seat_words seat ++ count_words seat.calls name)

-- `waits N sS OP`, and for how long
abbrev pub call_words : ObjectForm → WaitingRow → List Word
call_words o call =
    bare (codes "waits") ∷ bare (decimal call.number) ∷ session_word call.session ∷ name_word o call.operation
    ∷ time_words call.seconds

-- `.. path P node K full` or `.. path P node K turn J`
abbrev pub waits_line : ObjectForm → WaitingRow → Why → List ℕ
waits_line o call why = line_of (call_words o call ++ node_words why [])

-- a session, and its name
pub record Sitting : Type 0 where
  pub seat : SessionRow
  pub name : Option (List ℕ)

-- a call that waits, and what refuses it
pub record Refused : Type 0 where
  pub call : WaitingRow
  pub whys : List Why

-- the whole of it
abbrev pub who_text : ObjectForm → List Sitting → List Refused → List ℕ
who_text o seats calls =
    who_line (length seats + sum (map (λ c. length c.whys) calls)) ++ flat_map (λ s. seat_line s.seat s.name) seats
    ++ flat_map (λ c. flat_map (waits_line o c.call) c.whys) calls
