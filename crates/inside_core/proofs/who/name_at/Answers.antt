use Rattle.std.specs.Prelude.{option_map}
use Rattle.client_core.specs.People.{name_in}
use Rattle.inside_core.proofs.People.{told_at}
use Rattle.inside_core.proofs.who.name_at.Goals as goal

pub returns : goal.returns
returns c = told_at name_in c.args.clients.now c.args.place (option_map (λ n. n.now) c.name.result) c.name.ensures
