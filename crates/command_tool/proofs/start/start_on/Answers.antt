use Rattle.command_tool.proofs.Servable.{goes_on}
use Rattle.command_tool.proofs.start.start_on.Goals as goal

pub returns-in-Ok-clause-prepared : goal.returns-in-Ok-clause-prepared
returns-in-Ok-clause-prepared c =
    goes_on c.args.asked c.in-Ok.started c.args.text.items c.requires c.in-Ok.ensures.text c.in-Ok.ensures.asked c.in-Ok.ensures.telling
