use Rattle.std.proofs.Common.{◌≡◌, List, ℕ}
use Rattle.keep_loop.specs.Taken.{spelled}
use Rattle.taken_core.proofs.Formats.{sure, unsure, none_spelled, other_spelled}
use Rattle.taken_core.proofs.format.read_size.Goals as goal

pub returns-then-branch : goal.returns-then-branch
returns-then-branch c =
    let t = c.in_ok-is_spelled-in-Some.ensures in
    let s = sure ((more : List ℕ) × (c.args.text.now ≡ spelled c.args.word.now c.in-Some.size more)) c.in_ok-is_spelled-in-Some.field-0 c.if-branch.true t.spelled in (t.bits, s.0, s.1)

pub returns-else-branch : goal.returns-else-branch
returns-else-branch c =
    let t = c.in_ok-is_spelled-in-Some.ensures in
    let not = unsure ((more : List ℕ) × (c.args.text.now ≡ spelled c.args.word.now c.in-Some.size more)) c.in_ok-is_spelled-in-Some.field-0 c.if-branch.false t.spelled in
    other_spelled c.args.word.now c.args.text.now c.size_in.result c.in-Some.size c.size_in.ensures c.in-Some.is not

pub returns-in-None : goal.returns-in-None
returns-in-None c = none_spelled c.args.word.now c.args.text.now c.size_in.result c.size_in.ensures c.in-None.is
