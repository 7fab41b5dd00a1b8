use Rattle.std.proofs.Common.{◌<◌, length, sym, subst}
use Rattle.guest_core.specs.Guests.{Guests}
use Rattle.guest_core.specs.GuestsView.{guests_of}
use Rattle.guest_core.proofs.Whole.{again_entered, sound_again}
use Rattle.guest_core.proofs.guests.Guests.come_again.Goals as goal

pub invariant_of-self-2 : goal.invariant_of-self-2
invariant_of-self-2 c =
    sound_again (guests_of c.self.inside) c.args.place c.in-Some.found.0 c.in-Some.found.1 c.come.new.self c.self.invariant (subst (λ (w : Guests). c.args.place < length w.guests) (sym c.self.view_is) c.requires) c.in-Some.ensures.some

pub returns : goal.returns
returns c = again_entered (guests_of c.self.inside) c.args.self.now c.args.place c.in-Some.found.0 c.in-Some.found.1 c.come.new.self c.self.view_is c.in-Some.ensures.some
