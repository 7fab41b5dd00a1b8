use Rattle.history_law.proofs.Serving.{honest_serves_all}
use Rattle.history_law.proofs.talk_laws.honest_serves_all.Goals as goal

pub returns : goal.returns
returns c = honest_serves_all
