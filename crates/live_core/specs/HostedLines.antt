-- The lines of a journal that are no start and no end.
use Rattle.std.specs.Prelude.{ℕ, List, [], ◌∷◌, codes, decimal, map, Result, Ok, Err, if◌then◌else◌}
use Rattle.decl_core.specs.ObjectForm.{ObjectForm}
use Rattle.word_core.specs.Data.{datum_word, session_word}
use Rattle.word_core.specs.Words.{Word, bare, line_of}
use Rattle.word_core.specs.Events.{Called}
use Rattle.word_core.specs.Text.{operation_name}
use Rattle.guest_core.specs.declared.guests.Entered.{Entered}
use Rattle.guest_core.specs.declared.guests.EnterFault.{EnterFault}

-- `cancel N sK OP ARG ..`
abbrev pub cancel_words : ObjectForm → Called → List Word
cancel_words o c =
    bare (codes "cancel") ∷ bare (decimal c.number) ∷ session_word c.session ∷ bare (operation_name o c.operation)
    ∷ map datum_word c.arguments

-- `name sK CLIENT`
abbrev pub name_words : ℕ → List ℕ → List Word
name_words session name = bare (codes "name") ∷ session_word session ∷ bare name ∷ []

-- the line of a client that came by its name, where the name is new
abbrev pub entered_lines : List ℕ → Result Entered EnterFault → List ℕ
entered_lines name (Ok a) = if a.is_new then line_of (name_words a.session name) else []
entered_lines name (Err fault) = []
