use Rattle.std.proofs.Common.{◌≡◌, ◌∙◌, ap, decimal}
use Rattle.std.proofs.lemmas.Fmt.{parse-decimal}
use Rattle.serve_core.proofs.Numbering.{one_ok}
use Rattle.serve_core.proofs.folder.number_of.Goals as goal

pub returns-else-is_spelling-clause-none : goal.returns-else-is_spelling-clause-none
returns-else-is_spelling-clause-none c = λ n fits is.
    let read = parse-decimal 64 n _ _ fits fits is c.parse.ensures.value.0 in
    let same : n ≡ c.in-Ok.number = one_ok _ _ _ read c.in-Ok.is in
    absurd (cc (c.if-is_spelling.ensures.1 (is ∙ ap decimal same)))

pub returns-in-Err-clause-none : goal.returns-in-Err-clause-none
returns-in-Err-clause-none c = λ n fits is. absurd (cc (parse-decimal 64 n _ _ fits fits is c.parse.ensures.value.0))
