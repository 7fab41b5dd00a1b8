use Rattle.decl_core.proofs.Contested.{contested_bits}
use Rattle.decl_core.proofs.conflict.contested.Goals as goal

pub returns : goal.returns
returns c = λ p. contested_bits c.args.first.reads c.args.first.writes c.args.second.reads c.args.second.writes p
