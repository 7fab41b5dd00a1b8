use Rattle.std.proofs.Common.{None}
use Rattle.guest_core.specs.GuestsView.{guests_of}
use Rattle.guest_core.specs.Keys.{Ends}
use Rattle.guest_core.proofs.Whole.{sound_keys}
use Rattle.guest_core.proofs.guests.Guests.cancel.Goals as goal

pub invariant_of-self : goal.invariant_of-self
invariant_of-self c = sound_keys (guests_of c.self.inside) c.args.session c.in-Some.place c.cancel.new.self (λ before after. Ends before c.args.told None c.cancel.result after) c.self.invariant c.in-Some.ensures.some c.cancel.ensures
