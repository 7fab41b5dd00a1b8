use Rattle.std.proofs.Common.{◌≡◌, ◌∙◌, ◌<◌, List, Some, length, sym, ap, subst}
use Rattle.std.specs.Prelude.{slice_get, slice_set}
use Rattle.guest_core.specs.declared.seats.SeatHolder.{SeatHolder}
use Rattle.guest_core.specs.declared.seats.SeatHolder.TheVariants.{Free, Named, Retired}
use Rattle.guest_core.specs.Guests.{Guests, guest_of}
use Rattle.guest_core.specs.GuestsView.{guests_of}
use Rattle.guest_core.proofs.Items.{get_some}
use Rattle.guest_core.proofs.Whole.{sound_placed}
use Rattle.guest_core.proofs.guests.Guests.restart.Goals as goal

pub invariant_of-self-2 : goal.invariant_of-self-2
invariant_of-self-2 c =
    let v = guests_of c.self.inside in
    let free = subst (λ (w : Guests). slice_get w.seats c.args.session ≡ Some Free) (sym c.self.view_is) c.requires.free in
    let known = get_some v.guests c.args.place (subst (λ (w : Guests). c.args.place < length w.guests) (sym c.self.view_is) c.requires.within) in
    let set = c.set-2.ensures ∙ ap (λ (ss : List SeatHolder). slice_set ss c.args.session (Named c.args.place)) (c.set.ensures ∙ ap (λ n. slice_set v.seats n Retired) (c.in_ok-was.ensures.old known.0 known.1)) in
    sound_placed v c.restart.new.self c.set-2.new.self known.0 (guest_of known.0.name c.args.session c.args.away c.args.first) c.args.place c.self.invariant known.1 free
    (λ q h is same. c.self.invariant.once q c.args.place h known.0 is known.1 same) (c.in_ok-was.ensures.ok known.0 known.1) set
