use Rattle.session_text.proofs.Asking.{request_exact}
use Rattle.session_text.proofs.laws.request_exact.Goals as goal

pub returns : goal.returns
returns c = request_exact
