-- What was read from a line, without where it lies.
use Rattle.std.specs.Prelude.{ℕ, List, Option, MatchOption}
use Rattle.word_core.specs.Says.{Says}
use Rattle.word_core.specs.declared.said.Said.{Said}
use Rattle.word_core.specs.declared.said.Said.TheVariants as said
use Rattle.word_core.specs.Said as lines

abbrev pub said_view : Said → lines.Said
said_view (said.Call session name arguments) = lines.a_call session name.now arguments.items
said_view (said.CallKey session key name arguments) = lines.a_keyed_call session key name.now arguments.items
said_view (said.Do session name arguments) = lines.a_do session name.now arguments.items
said_view (said.Step number works) = lines.a_step number works
said_view (said.Steps number) = lines.all_steps number
said_view (said.Finish number) = lines.a_finish number
said_view (said.Cancel number) = lines.a_cancel number
said_view (said.Drop session) = lines.a_drop session
said_view (said.Resume session) = lines.a_resume session
said_view said.Show = lines.a_show
said_view said.Trace = lines.a_trace

-- what a line says, or none where it says nothing
abbrev pub IsReadOf : List ℕ → Option Said → Type 0
IsReadOf line found =
    MatchOption found ((said : lines.Said) → Says lines.said_of line said → ⊥)
    (λ said. Says lines.said_of line (said_view said))
