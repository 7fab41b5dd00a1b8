use Rattle.guest_core.specs.GuestsView.{guests_of}
use Rattle.guest_core.specs.Keys.{asks, Asks}
use Rattle.guest_core.proofs.Whole.{sound_keys}
use Rattle.guest_core.proofs.guests.Guests.ask.Goals as goal

pub invariant_of-self : goal.invariant_of-self
invariant_of-self c = sound_keys (guests_of c.self.inside) c.args.session c.in-Some.place c.ask.new.self (λ before after. Asks before (asks c.args.operation c.args.arguments.now) c.ask.result after) c.self.invariant c.in-Some.ensures.some c.ask.ensures
