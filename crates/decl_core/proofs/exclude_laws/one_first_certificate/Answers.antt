use Rattle.decl_core.proofs.OneCertificate.{one_first_certificate}
use Rattle.decl_core.proofs.exclude_laws.one_first_certificate.Goals as goal

pub returns : goal.returns
returns c = one_first_certificate
