use Rattle.std.proofs.Common.{◌∙◌, List, ap}
use Rattle.std.specs.Prelude.{slice_set}
use Rattle.guest_core.specs.declared.seats.SeatHolder.{SeatHolder}
use Rattle.guest_core.specs.declared.seats.SeatHolder.TheVariants.{Nameless}
use Rattle.guest_core.specs.GuestsView.{guests_of}
use Rattle.guest_core.proofs.Whole.{sound_given}
use Rattle.guest_core.proofs.guests.Guests.seat.Goals as goal

pub invariant_of-self-2 : goal.invariant_of-self-2
invariant_of-self-2 c =
    sound_given (guests_of c.self.inside) c.in_ok-session.session c.set.new.self c.self.invariant c.in_ok-session.ensures.some.free (c.set.ensures ∙ ap (λ (ss : List SeatHolder). slice_set ss c.in_ok-session.session Nameless) c.least_free.ensures.same)
