use Rattle.guest_core.specs.GuestsView.{guests_of}
use Rattle.guest_core.proofs.Whole.{sound_freed}
use Rattle.guest_core.proofs.guests.Guests.give_back.Goals as goal

pub invariant_of-self : goal.invariant_of-self
invariant_of-self c = sound_freed (guests_of c.self.inside) c.args.session c.set.new.self c.self.invariant (c.is_nameless.ensures.0 c.if-not-is_nameless.false) c.set.ensures
