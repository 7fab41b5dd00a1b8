use Rattle.audit_core.proofs.Written.{text_is_legal}
use Rattle.audit_core.proofs.laws.text_is_legal.Goals as goal

pub returns : goal.returns
returns c = text_is_legal
