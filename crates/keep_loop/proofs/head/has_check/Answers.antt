use Rattle.std.proofs.Common.{◌≡◌, sym, ◌∙◌, ap}
use Rattle.std.specs.Prelude.{◌||◌}
use Rattle.keep_loop.specs.Journal.{whole}
use Rattle.keep_loop.specs.Taken.{cut, has_check}
use Rattle.keep_loop.proofs.Taking.{check_first}
use Rattle.keep_loop.proofs.head.has_check.Goals as goal

pub returns-then-is_check : goal.returns-then-is_check
returns-then-is_check c =
    let first = check_first c.loop-line.rest.now c.in-Some.line.now c.in-Some.more.now c.in-Some.ensures in
    sym (first ∙ ap (λ b. b || has_check (cut (whole c.in-Some.more.now))) (sym c.is_check.ensures ∙ c.if-is_check.true)) ∙ c.loop-line.invariant

pub loop-line-preserved : goal.loop-line-preserved
loop-line-preserved c =
    let first = check_first c.loop-line.rest.now c.in-Some.line.now c.in-Some.more.now c.in-Some.ensures in
    sym (first ∙ ap (λ b. b || has_check (cut (whole c.in-Some.more.now))) (sym c.is_check.ensures ∙ c.if-is_check.false)) ∙ c.loop-line.invariant
