use Rattle.std.proofs.Common.{arith}
use Rattle.std.proofs.lemmas.List.{nil_from_length}
use Rattle.std.proofs.lemmas.Bool.Decides.{nat_tests}
use Rattle.check_core.proofs.Sorting.{ready_all}
use Rattle.check_core.proofs.judge.judge_all.Goals as goal

pub returns-then-is_empty : goal.returns-then-is_empty
returns-then-is_empty c =
    let none = c.if-is_empty.ensures in
    let is = c.in_ok-ready.field-0.told.ok.0 in
    ready_all _ _ _ c.in_ok-ready.ensures (nil_from_length c.in_ok-ready.field-0.told.items (grind (arith, nat_tests, none, is)))
