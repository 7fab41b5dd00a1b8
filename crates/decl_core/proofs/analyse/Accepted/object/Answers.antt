use Rattle.std.proofs.Common.{subst}
use Rattle.decl_core.specs.ObjectMap.{object_of}
use Rattle.decl_core.specs.Exclusive.{IsExclusive}
use Rattle.decl_core.proofs.analyse.Accepted.object.Goals as goal

pub returns-clause-exclusive : goal.returns-clause-exclusive
returns-clause-exclusive c = subst (λ object. IsExclusive (object_of object)) c.self.view_is c.self.invariant.0
