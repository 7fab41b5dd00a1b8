use Rattle.std.proofs.Common.{refl}
use Rattle.apply_core.proofs.Skips.{integer_is}
use Rattle.apply_core.proofs.skip.integer_at.Goals as goal

pub returns-in-Some-clause-some : goal.returns-in-Some-clause-some
returns-in-Some-clause-some c = record { sort = refl; datum = c.in-Some.ensures.some.1 }

pub returns-in-Some-clause-some_is : goal.returns-in-Some-clause-some_is
returns-in-Some-clause-some_is c = λ d rest is spelled.
    integer_is c.args.bytes.now c.in-Some.field-0-1.now rest c.in-Some.number d c.in-Some.ensures.some.0 c.in-Some.ensures.some.1 is spelled
