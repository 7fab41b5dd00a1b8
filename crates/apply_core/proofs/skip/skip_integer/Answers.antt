use Rattle.apply_core.proofs.Skips.{cut_integer}
use Rattle.apply_core.proofs.skip.skip_integer.Goals as goal

pub returns-in-Some-clause-some : goal.returns-in-Some-clause-some
returns-in-Some-clause-some c = λ d rest is spelled.
    cut_integer c.args.bytes.now c.in-Some.rest.now rest c.in-Some.field-0-0 d c.in-Some.ensures.some.0 c.in-Some.ensures.some.1 is spelled
