use Rattle.apply_core.proofs.Skips.{as_text, no_text_is}
use Rattle.apply_core.proofs.skip.skip_text.Goals as goal

pub returns-in-Some-clause-some : goal.returns-in-Some-clause-some
returns-in-Some-clause-some c = as_text c.args.bytes.now c.in-Some.rest.now (λ t rest is spelled. (c.in-Some.ensures.some t rest is spelled).1)

pub returns-in-None-clause-none : goal.returns-in-None-clause-none
returns-in-None-clause-none c = no_text_is c.args.bytes.now c.in-None.ensures.none
