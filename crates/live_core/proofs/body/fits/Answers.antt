use Rattle.std.proofs.Common.{◌∙◌, sym}
use Rattle.live_core.proofs.Forms.{fits_same}
use Rattle.live_core.proofs.body.fits.Goals as goal

pub returns : goal.returns
returns c =
    let same = fits_same c.args.object.now c.args.operation c.index.result.now c.requires c.index.ensures c.deref.result.now c.deref.ensures in
    (λ yes. c.arguments_fit.ensures.0 yes ∙ sym same, λ fit. c.arguments_fit.ensures.1 (fit ∙ same))
