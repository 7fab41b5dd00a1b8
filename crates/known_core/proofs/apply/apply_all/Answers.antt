use Rattle.std.proofs.Common.{sym, subst}
use Rattle.apply_core.specs.Fits.{HoldsReads}
use Rattle.known_core.proofs.apply.apply_all.Goals as goal

pub evaluate_whole-requires-clause-held : goal.evaluate_whole-requires-clause-held
evaluate_whole-requires-clause-held c = subst (HoldsReads c.args.operation.now) (sym c.logged-logged.ensures.values) c.requires.held
