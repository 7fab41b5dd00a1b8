use Rattle.std.proofs.Common.{arith, refl}
use Rattle.path_count.proofs.PathLines.{first_stands, second_stands, mark_alone}
use Rattle.path_count.proofs.paths.path_line.fault_behind.Goals as goal

pub returns-in-empty-clause-end : goal.returns-in-empty-clause-end
returns-in-empty-clause-end c = mark_alone c.args.rest.now c.in-empty.len_below c.requires

pub returns-else-is_semicolon-clause-at : goal.returns-else-is_semicolon-clause-at
returns-else-is_semicolon-clause-at c =
    first_stands c.args.rest.now c.first-item.result (omega (arith, c.in-len2.len_at_least)) c.first-item.is (λ is. let h = c.if-is_semicolon.ensures.1 is in cc)

pub returns-then-is_semicolon-2-clause-at : goal.returns-then-is_semicolon-2-clause-at
returns-then-is_semicolon-2-clause-at c =
    second_stands c.args.rest.now c.first-item-2.result c.second-item.result (omega (arith, c.in-len2-up.len_at_least)) c.first-item-2.is c.second-item.is (c.if-is_semicolon-2.ensures.0 refl)

pub returns-else-is_semicolon-2-clause-at : goal.returns-else-is_semicolon-2-clause-at
returns-else-is_semicolon-2-clause-at c =
    first_stands c.args.rest.now c.first-item-2.result (omega (arith, c.in-len2-up.len_at_least)) c.first-item-2.is (λ is. let h = c.if-is_semicolon-2.ensures.1 is in cc)
