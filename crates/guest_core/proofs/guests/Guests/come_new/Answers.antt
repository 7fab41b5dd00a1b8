use Rattle.std.proofs.Common.{sym, subst}
use Rattle.guest_core.specs.Guests.{Guests, IsUnknown}
use Rattle.guest_core.proofs.guests.Guests.come_new.Goals as goal

pub come_more-requires-clause-new : goal.come_more-requires-clause-new
come_more-requires-clause-new c = subst (λ (w : Guests). IsUnknown w c.args.name.now) (sym c.self.view_is) c.requires

pub come_instead-requires-clause-new : goal.come_instead-requires-clause-new
come_instead-requires-clause-new c = subst (λ (w : Guests). IsUnknown w c.args.name.now) (sym c.self.view_is) c.requires
