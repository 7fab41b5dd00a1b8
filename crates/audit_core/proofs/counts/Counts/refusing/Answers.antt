use Rattle.std.proofs.Common.{subst, sym}
use Rattle.audit_core.specs.Counting.{AreCounters}
use Rattle.audit_core.proofs.counts.Counts.refusing.Goals as goal

pub returns : goal.returns
returns c = λ n paths t counted below. c.refusing.ensures n paths t (subst (λ cs. AreCounters cs n paths t) (sym c.deref.ensures.value) counted.apart) below
