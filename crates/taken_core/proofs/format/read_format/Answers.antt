use Rattle.taken_core.proofs.Formats.{few_found}
use Rattle.taken_core.proofs.format.read_format.Goals as goal

pub returns-then-format-lt2 : goal.returns-then-format-lt2
returns-then-format-lt2 c = few_found c.args.rest.now c.in_ok-format.field-0 c.in-Some.format c.requires c.in_ok-format.ensures c.in-Some.is c.if-format-lt2.true
