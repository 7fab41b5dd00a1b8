use Rattle.client_core.proofs.Insides.{behind_verb}
use Rattle.client_core.proofs.ask.inside_of.Goals as goal

pub returns-in-Some : goal.returns-in-Some
returns-in-Some c = behind_verb c.args.line.now c.in-Some.verb.now c.in-Some.rest.now c.inside_by.result c.in-Some.ensures c.inside_by.ensures
