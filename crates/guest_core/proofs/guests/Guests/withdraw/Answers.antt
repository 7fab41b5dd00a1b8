use Rattle.std.proofs.Common.{◌≡◌}
use Rattle.guest_core.specs.GuestsView.{guests_of}
use Rattle.guest_core.specs.Keys.{withdrawn}
use Rattle.guest_core.proofs.Whole.{sound_keys, withdrawn_at}
use Rattle.guest_core.proofs.guests.Guests.withdraw.Goals as goal

pub invariant_of-self : goal.invariant_of-self
invariant_of-self c =
    sound_keys (guests_of c.self.inside) c.args.session c.in-Some.place c.withdraw.new.self (λ before after. after ≡ withdrawn before) c.self.invariant c.in-Some.ensures.some
    (withdrawn_at (guests_of c.self.inside) c.in-Some.place c.withdraw.new.self c.withdraw.ensures)
