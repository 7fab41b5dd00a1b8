use Rattle.std.proofs.Common.{refl}
use Rattle.value_core.specs.declared.datum.Datum.TheVariants as datum
use Rattle.apply_core.proofs.strip.past_one_text.Goals as goal

pub returns-in-Some-clause-some : goal.returns-in-Some-clause-some
returns-in-Some-clause-some c = (datum.Text c.in-Some.field-0-0.now, record { sort = refl; datum = c.in-Some.ensures.some.0 }, c.in-Some.ensures.some.1)
