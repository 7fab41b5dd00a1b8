use Rattle.std.proofs.Common.{refl}
use Rattle.value_core.specs.declared.datum.Datum.TheVariants as datum
use Rattle.apply_core.proofs.strip.past_integer.Goals as goal

pub returns-in-Some-clause-some : goal.returns-in-Some-clause-some
returns-in-Some-clause-some c = (datum.Integer c.in-Some.field-0-0, record { sort = refl; datum = c.in-Some.ensures.some.1 }, c.in-Some.ensures.some.0)
