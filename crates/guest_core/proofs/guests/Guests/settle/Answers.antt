use Rattle.std.proofs.Common.{◌≡◌, Some, sym, subst}
use Rattle.std.specs.Prelude.{slice_get}
use Rattle.guest_core.specs.declared.seats.SeatHolder.TheVariants.{Free}
use Rattle.guest_core.specs.Guests.{Guests, IsUnknown, guest_of}
use Rattle.guest_core.specs.GuestsView.{guests_of}
use Rattle.guest_core.proofs.Whole.{sound_settled}
use Rattle.guest_core.proofs.guests.Guests.settle.Goals as goal

pub invariant_of-self-2 : goal.invariant_of-self-2
invariant_of-self-2 c =
    let unknown = subst (λ (w : Guests). IsUnknown w c.args.name.now) (sym c.self.view_is) c.requires.new in
    let free = subst (λ (w : Guests). slice_get w.seats c.args.session ≡ Some Free) (sym c.self.view_is) c.requires.free in
    sound_settled (guests_of c.self.inside) c.add.new.self c.set.new.self (guest_of c.args.name.now c.args.session c.args.away c.args.first) c.len-place.result c.self.invariant unknown free c.in_ok-add.ensures.ok c.len-place.ensures.len c.set.ensures
