use Rattle.std.proofs.Common.{◌≡◌, ◌≢◌, ◌+◌, None, List, ap, sym, subst, refl, arith}
use Rattle.page_core.specs.Lists.{Every}
use Rattle.office_core.specs.declared.clients.Client.{Client}
use Rattle.office_core.specs.Clients.{AreClients}
use Rattle.office_core.proofs.Naming.{clients_more}
use Rattle.office_core.specs.Insides.{InsideView}
use Rattle.office_core.proofs.inside.Inside.seat_new.Goals as goal

pub invariant_of-self : goal.invariant_of-self
invariant_of-self c =
    let clients : c.self.inside.clients ≡ c.args.self.now.clients = ap (λ (r : InsideView). r.clients) c.self.view_is in
    let client : Client = record { name = c.args.name.now; session = c.self.inside.given + 1; seat = None } in
    let unknown = subst (λ (cs : List Client). Every (λ (x : Client). x.name ≢ c.args.name.now) cs) (sym clients) c.requires in (
      omega (arith, c.if-self-ge-MOST_SESSIONS.false),
      subst (AreClients (c.self.inside.given + 1)) (sym c.in-Ok.ensures.ok) (clients_more c.self.inside.given c.self.inside.clients client c.self.invariant.1 unknown refl refl),
    )
