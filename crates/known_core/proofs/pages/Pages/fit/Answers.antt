use Rattle.std.proofs.Common.{◌<◌, length, refl, ◌∙◌, arith}
use Rattle.std.proofs.lemmas.List.{length-set}
use Rattle.known_core.proofs.Fitting.{all_masks, all_at, start, next, masks_for, same_fit, other_fit, kept_fit}
use Rattle.known_core.proofs.pages.Pages.fit.Goals as goal

pub loop-part-init : goal.loop-part-init
loop-part-init c = (start c.args.operation.now c.self.inside.masks (all_masks 16) (all_at 16), refl)

pub loop-part-preserved : goal.loop-part-preserved
loop-part-preserved c =
    let within : c.loop-part.part < length c.loop-part.masks = omega (arith, c.loop-part-test.true, c.len-part-end.ensures, c.args.operation.now.kinds.ok.0, c.args.operation.now.few_parts, c.loop-part.invariant.1) in
    (next c.args.operation.now c.self.inside.masks c.loop-part.masks c.loop-part.part c.fit_mask.result c.loop-part.invariant.0 within c.fit_mask.ensures, length-set c.loop-part.masks c.loop-part.part c.fit_mask.result ∙ c.loop-part.invariant.1)

pub invariant_of-result : goal.invariant_of-result
invariant_of-result c = c.loop-part.invariant.1

pub returns-clause-masks : goal.returns-clause-masks
returns-clause-masks c = masks_for c.args.operation.now c.self.inside.masks c.loop-part.masks c.loop-part.part c.loop-part.invariant.0

pub returns-clause-same : goal.returns-clause-same
returns-clause-same c = same_fit c.args.operation.now c.args.self c.self.inside.masks c.loop-part.masks c.loop-part.part c.loop-part.invariant.0 c.self.view_is (omega (arith, c.loop-part-test.false, c.len-part-end.ensures, c.args.operation.now.kinds.ok.0))

pub returns-clause-others : goal.returns-clause-others
returns-clause-others c = other_fit c.args.operation.now c.self.inside.masks c.loop-part.masks c.loop-part.part c.loop-part.invariant.0

pub returns-clause-kept : goal.returns-clause-kept
returns-clause-kept c = kept_fit c.args.operation.now c.args.self c.self.inside.masks c.loop-part.masks c.loop-part.part c.loop-part.invariant.0 c.self.view_is c.self.invariant c.loop-part.invariant.1 (omega (arith, c.loop-part-test.false, c.len-part-end.ensures, c.args.operation.now.kinds.ok.0))
