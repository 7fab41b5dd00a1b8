use Rattle.std.proofs.Common.{◌++◌, ap, ◌∙◌}
use Rattle.stuck_core.specs.ReasonViews.{whys_of}
use Rattle.stuck_core.specs.Reasons.{all_whys}
use Rattle.stuck_core.proofs.Telling.{tells}
use Rattle.stuck_core.proofs.find.reasons.Goals as goal

pub returns : goal.returns
returns c = λ t counted.
    tells c.args.paths.now c.args.op c.args.words.now t (whys_of c.push_paths.new.found.items) counted
    (c.in_ok-push_paths.ensures counted.fits ∙ ap (λ x. whys_of x ++ all_whys c.args.paths.now 1 0 c.args.op c.args.words.now) c.new-found.ensures.items)
