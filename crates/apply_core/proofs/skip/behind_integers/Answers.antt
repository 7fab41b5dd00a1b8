use Rattle.std.proofs.Common.{arith}
use Rattle.apply_core.proofs.Integers.{enough_integers, integers_behind}
use Rattle.apply_core.proofs.skip.behind_integers.Goals as goal

pub returns-then-count-bytes : goal.returns-then-count-bytes
returns-then-count-bytes c = λ xs each spelled few. absurd
    (enough_integers c.args.bytes.now xs c.args.count each spelled few (omega arith))

pub returns : goal.returns
returns c = λ xs each spelled few.
    integers_behind c.args.bytes.now c.cut.result.0.now c.cut.result.1.now xs c.args.count each spelled few c.cut.ensures.whole c.cut.ensures.len
