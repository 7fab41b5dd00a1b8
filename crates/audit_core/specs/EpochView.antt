-- What was read from a line, without where it lies.
use Rattle.std.specs.Prelude.{ℕ, List, Option, MatchOption}
use Rattle.audit_core.specs.View.{told_view}
use Rattle.audit_core.specs.declared.epoch_said.AskedCall.{AskedCall}
use Rattle.audit_core.specs.declared.epoch_said.EpochLine.{EpochLine}
use Rattle.audit_core.specs.declared.epoch_said.EpochLine.TheVariants as said
use Rattle.audit_core.specs.EpochSaid as lines

abbrev pub asked_view : AskedCall → lines.Asked
asked_view a =
    record { number = a.number; session = a.session; name = a.name.now; arguments = a.arguments.items }

abbrev pub said_view : EpochLine → lines.Said
said_view (said.Start asked) = lines.a_start (asked_view asked)
said_view (said.End number reply) = lines.an_end number (told_view reply)
said_view (said.Cancel asked) = lines.a_cancel (asked_view asked)
said_view (said.Name session client) = lines.a_name session client.now

-- what a line says, or that it says nothing
abbrev pub IsSaid : List ℕ → Option EpochLine → Type 0
IsSaid line found =
    MatchOption found ((said : lines.Said) → lines.Says line said → ⊥) (λ s. lines.Says line (said_view s))
