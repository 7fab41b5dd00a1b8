use Rattle.std.proofs.Common.{subst}
use Rattle.std.specs.Prelude.{IfSome}
use Rattle.session_core.specs.Entering.{IsAt}
use Rattle.session_core.proofs.order.VecNamedOffices.place_of.Goals as goal

pub returns-clause-some : goal.returns-clause-some
returns-clause-some c = subst (λ offices. IfSome c.place_of.result (λ at. IsAt offices at c.args.name.now)) c.deref.ensures.value c.place_of.ensures.some
