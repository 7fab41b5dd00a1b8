use Rattle.decl_core.proofs.OneCertificate.{certified_is_exclusive}
use Rattle.decl_core.proofs.exclude_laws.certified_is_exclusive.Goals as goal

pub returns : goal.returns
returns c = certified_is_exclusive
