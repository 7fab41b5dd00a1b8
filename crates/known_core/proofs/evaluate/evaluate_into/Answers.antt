use Rattle.std.proofs.Common.{map, sym, subst}
use Rattle.value_core.specs.Contents.{kind_of}
use Rattle.decl_core.specs.View.{all_of}
use Rattle.apply_core.specs.Fitting.{StatementsFit}
use Rattle.apply_core.proofs.TypedFits.{body_fits}
use Rattle.known_core.proofs.evaluate.evaluate_into.Goals as goal

pub act_all-requires : goal.act_all-requires
act_all-requires g c = record {
  fits = subst (λ all. StatementsFit (map kind_of (g.P.PartValues.values c.args.parts.now)) (all_of all)) (sym c.deref.ensures.value) (body_fits c.args.operation.now (g.P.PartValues.values c.args.parts.now) c.requires.held);
}
