use Rattle.audit_core.proofs.Once.{one_verdict}
use Rattle.audit_core.proofs.laws.one_verdict.Goals as goal

pub returns : goal.returns
returns c = one_verdict
