use Rattle.std.proofs.Common.{◌∙◌, ap, refl, arith}
use Rattle.std.proofs.lemmas.List.{take_all}
use Rattle.inside_core.specs.Looks.{waiting_of}
use Rattle.inside_core.proofs.Looking.{waiting_more}
use Rattle.inside_core.proofs.look.waiting_of.Goals as goal

pub loop-call-init : goal.loop-call-init
loop-call-init c = (refl, omega arith)

pub loop-call-preserved : goal.loop-call-preserved
loop-call-preserved c = (
  waiting_more c.args.operation c.loop-call.call-index c.loop-call.count c.is_of-count.result c.args.waiting.now c.call-item.result c.loop-call-test.true c.call-item.is
      c.loop-call.invariant.0 c.is_of-count.ensures.count,
  (let a = c.loop-call.invariant.1 in let b = c.is_of-count.ensures.one in omega (arith, a, b)),
)

pub returns : goal.returns
returns c = c.loop-call.invariant.0 ∙ ap (waiting_of c.args.operation) (take_all c.loop-call.call-index c.args.waiting.now c.loop-call-test.false)
