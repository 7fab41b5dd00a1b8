use Rattle.std.proofs.Common.{rules, arith, sym, ap, ◌∙◌}
use Rattle.office_core.specs.Clients.{parked_of}
use Rattle.office_core.proofs.Parked.{times_append}
use Rattle.office_core.proofs.seats.has_one.Goals as goal

pub returns : goal.returns
returns c =
    let all = times_append c.args.session (parked_of c.args.clients.now) c.args.seats.now in
    grind (arith, all)
