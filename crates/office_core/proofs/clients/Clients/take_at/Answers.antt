use Rattle.std.proofs.Common.{◌≡◌, Some, None, List, subst}
use Rattle.std.specs.Prelude.{IfSome, slice_get, slice_set}
use Rattle.office_core.specs.declared.client_seat.Seat.{Seat}
use Rattle.office_core.specs.declared.clients.Client.{Client}
use Rattle.office_core.proofs.clients.Clients.take_at.Goals as goal

pub returns-clause-some : goal.returns-clause-some
returns-clause-some c =
    subst
    (λ (rows : List Client). IfSome c.take_at.result (λ (seat : Seat). (client : Client) → slice_get rows c.args.place ≡ Some client
    → (client.seat ≡ Some seat) × (c.take_at.new.clients.items ≡ slice_set rows c.args.place (record client { seat = None }))))
    c.self.view_is
    c.take_at.ensures.some
