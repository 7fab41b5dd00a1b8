use Rattle.decl_core.specs.ObjectMap.{object_of}
use Rattle.decl_core.specs.Rest.{NodeSeparates}
use Rattle.decl_core.proofs.Rest.{skipped}
use Rattle.decl_core.proofs.uncalled.checked_pair.Goals as goal

pub returns-in-None : goal.returns-in-None
returns-in-None c = skipped (object_of c.args.object.now) (NodeSeparates (object_of c.args.object.now)) c.args.first c.args.second (λ h. c.in-None.ensures h.0 h.1) c.args.entries.now
