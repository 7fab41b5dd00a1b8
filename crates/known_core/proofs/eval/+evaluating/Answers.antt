use Rattle.std.proofs.Common.{rules, map, subst, sym, ap, ◌∙◌}
use Rattle.value_core.specs.Contents.{kind_of}
use Rattle.decl_core.specs.declared.expr.IntegerExpr.{the_lemmas}
use Rattle.decl_core.specs.View.{integers_of}
use Rattle.known_core.specs.Partly.{integer_known}
use Rattle.known_core.specs.Masks.{known_by}
use Rattle.apply_core.specs.Fitting.{IntegersFit, TermsFit}
use Rattle.known_core.specs.Sums.{seeing, with_terms}
use Rattle.known_core.proofs.Totals.{sum_fits, sum_value}
use Rattle.known_core.proofs.eval.+evaluating.Goals as goal

pub integer-integer-requires : goal.integer-integer-requires
integer-integer-requires g t c =
    let fit = sum_fits (map kind_of (g.P.PartValues.values c.args.parts.now)) c.args.e.now c.in-Sum.first c.in-Sum.terms c.in-Sum.is c.requires.fits in
    λ κs longer. (search (rules, the_lemmas), (longer, subst (λ e. IntegersFit (map kind_of (g.P.PartValues.values c.args.parts.now)) (integers_of e)) (sym c.deref-in-Sum.ensures) fit.0))

pub integer-sum-requires : goal.integer-sum-requires
integer-sum-requires g t c =
    let fit = sum_fits (map kind_of (g.P.PartValues.values c.args.parts.now)) c.args.e.now c.in-Sum.first c.in-Sum.terms c.in-Sum.is c.requires.fits in
    λ κs longer. (search (rules, the_lemmas), (longer, subst (TermsFit (map kind_of (g.P.PartValues.values c.args.parts.now))) (sym c.deref-in-Ok.ensures.value) fit.1))

pub integer-returns-in-Ok : goal.integer-returns-in-Ok
integer-returns-in-Ok g t c =
    let known = known_by c.args.known.now in
    let seen = seeing c.args.args.now (g.P.PartValues.values c.args.parts.now) in
    let first = ap (λ e. integer_known known seen (integers_of e)) (sym c.deref-in-Sum.ensures) ∙ c.in-Ok.ensures in
    sum_value known seen c.args.e.now c.in-Sum.first c.in-Sum.terms _ c.in-Sum.is first ∙ ap (with_terms known seen c.in-Ok.first) (sym c.deref-in-Ok.ensures.value) ∙ c.sum.ensures

pub integer-returns-in-Err : goal.integer-returns-in-Err
integer-returns-in-Err g t c =
    let known = known_by c.args.known.now in
    let seen = seeing c.args.args.now (g.P.PartValues.values c.args.parts.now) in
    sum_value known seen c.args.e.now c.in-Sum.first c.in-Sum.terms _ c.in-Sum.is (ap (λ e. integer_known known seen (integers_of e)) (sym c.deref-in-Sum.ensures) ∙ c.in-Err.ensures)
