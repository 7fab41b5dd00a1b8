use Rattle.std.proofs.Common.{◌∙◌, sym, arith}
use Rattle.serve_core.proofs.Numbering.{same_number}
use Rattle.serve_core.proofs.folder.number_between.Goals as goal
use Rattle.serve_core.proofs.folder.number_between.Goals.{else-first-number-via-then-first-number+else-number-end, else-first-number-via-else-first-number}

pub returns-else-first-number-clause-none : goal.returns-else-first-number-clause-none
returns-else-first-number-clause-none c = λ n is.
    let same = same_number n c.in-Some.number is.fits c.in-Some.ensures.some.0 (sym is.named ∙ c.in-Some.ensures.some.1) in
    elim c.else-first-number.branch [
      | else-first-number-via-then-first-number+else-number-end w ↦ absurd (omega (arith, same, is.below, w.if-number-end.false))
      | else-first-number-via-else-first-number w ↦ absurd (omega (arith, same, is.from, w.if-first-number.false))
    ]
