use Rattle.std.proofs.Common.{◌∙◌, ◌++◌, ◌-◌, [], ◌∷◌, ap, arith}
use Rattle.path_count.specs.declared.past.PastEvent.TheVariants.{End}
use Rattle.keep_core.specs.First.{calls_of}
use Rattle.keep_core.proofs.Calls.{one_more}
use Rattle.keep_core.proofs.start.push_calls.Goals as goal

pub loop-left-preserved : goal.loop-left-preserved
loop-left-preserved c =
    ap (λ xs. xs ++ calls_of (c.loop-left.left - 1) c.args.op) (c.in_ok-push-2.ensures.items ∙ ap (λ xs. xs ++ End c.args.op ∷ []) c.in_ok-push.ensures.items)
    ∙ one_more c.loop-left.done.items c.loop-left.left c.args.op (omega (arith, c.loop-left-test.true))
    ∙ c.loop-left.invariant
