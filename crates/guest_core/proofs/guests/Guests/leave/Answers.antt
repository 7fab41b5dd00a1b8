use Rattle.guest_core.specs.GuestsView.{guests_of}
use Rattle.guest_core.proofs.Whole.{sound_left, left_at}
use Rattle.guest_core.proofs.guests.Guests.leave.Goals as goal

pub invariant_of-self : goal.invariant_of-self
invariant_of-self c = sound_left (guests_of c.self.inside) c.args.session c.in-Some.place c.args.now c.go.result c.go.new.self c.self.invariant c.in-Some.ensures.some c.go.ensures.gone c.go.ensures.none

pub returns-in-Some : goal.returns-in-Some
returns-in-Some c = left_at (guests_of c.self.inside) c.args.self.now c.args.session c.in-Some.place c.args.now c.go.result c.go.new.self c.self.view_is c.self.invariant c.in-Some.ensures.some c.go.ensures.gone c.go.ensures.none
