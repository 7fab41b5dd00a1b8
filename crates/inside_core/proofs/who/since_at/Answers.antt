use Rattle.client_core.specs.People.{since_in}
use Rattle.inside_core.proofs.People.{told_at}
use Rattle.inside_core.proofs.who.since_at.Goals as goal

pub returns : goal.returns
returns c = told_at since_in c.args.clients.now c.args.place c.since.result c.since.ensures
