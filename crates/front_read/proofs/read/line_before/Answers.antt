use Rattle.std.proofs.Common.{◌∙◌, ap, take, length, arith}
use Rattle.front_read.specs.Text.{feeds_in}
use Rattle.front_read.proofs.Whole.{front_long, take_append}
use Rattle.front_read.proofs.read.line_before.Goals as goal

pub returns : goal.returns
returns c before cut =
    let same = c.split_at.ensures.front ∙ ap (λ n. take n c.args.text.now) (front_long c.args.text.now before c.args.rest.now cut) ∙ ap (take (length before)) cut ∙ take_append before c.args.rest.now in
    let count = c.feeds_in.ensures.count ∙ ap feeds_in same in
    omega (arith, count)
