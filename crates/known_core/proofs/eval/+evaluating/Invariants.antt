use Rattle.std.proofs.Common.{◌≡◌, map, drop}
use Rattle.value_core.specs.Contents.{kind_of}
use Rattle.known_core.specs.Masks.{known_by}
use Rattle.apply_core.specs.Fitting.{TermsFit}
use Rattle.known_core.specs.Sums.{seeing, with_terms}
use Rattle.known_core.proofs.eval.+evaluating.Given as goal

abbrev pub invariant-sum-loop-term : goal.invariant-sum-loop-term
invariant-sum-loop-term g l =
    TermsFit (map kind_of (g.P.PartValues.values l.parts)) (drop l.term-index l.terms) × (with_terms (known_by l.known) (seeing l.args (g.P.PartValues.values l.parts)) l.total (drop l.term-index l.terms) ≡ with_terms (known_by l.known) (seeing l.args (g.P.PartValues.values l.parts)) l.first l.terms)
