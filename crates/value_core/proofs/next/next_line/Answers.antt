use Rattle.std.proofs.Common.{◌∷◌, sym, ◌∙◌, ap, arith}
use Rattle.std.specs.Str.Lines.{lines}
use Rattle.std.proofs.lemmas.Bool.Decides.{nat_tests}
use Rattle.value_core.proofs.Cutting.{lines-at, last_line}
use Rattle.value_core.proofs.next.next_line.Goals as goal

pub returns-in-Some-clause-cut : goal.returns-in-Some-clause-cut
returns-in-Some-clause-cut c =
    ap lines c.in-Some.ensures.1 ∙ lines-at c.in-Some.line.now c.in-Some.rest.now c.in-Some.ensures.0 ∙ ap (λ l. l ∷ lines c.in-Some.rest.now) (sym c.without_cr.ensures)

pub returns-in-None-clause-cut : goal.returns-in-None-clause-cut
returns-in-None-clause-cut c = last_line c.args.text.now c.in-None.ensures (grind (arith, nat_tests))
