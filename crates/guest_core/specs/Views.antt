-- A call that has ended, without where it lies in memory.
use Rattle.word_core.specs.Events.{Called}
use Rattle.guest_core.specs.declared.held.EndedCall.{EndedCall}

abbrev pub called_of : EndedCall → Called
called_of c =
    record { number = c.number; session = c.session; operation = c.operation; arguments = c.arguments.now }
