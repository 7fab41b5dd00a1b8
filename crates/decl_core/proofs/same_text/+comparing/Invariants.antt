use Rattle.std.proofs.Common.{◌≡◌, ◌↔◌, ◌≤◌, suc}
use Rattle.decl_core.specs.View.{from_of, integers_of, texts_of}
use Rattle.decl_core.specs.SumRows.{outer_form, single_form}
use Rattle.decl_core.proofs.Weights.{weight_from, weight_integers, weight_texts}
use Rattle.decl_core.proofs.same_text.+comparing.Given as goal

abbrev pub decreases-same_integer : goal.decreases-same_integer
decreases-same_integer l = suc (weight_integers (integers_of l.a.now))

abbrev pub decreases-same_single : goal.decreases-same_single
decreases-same_single l = weight_integers (single_form l.a)

abbrev pub decreases-same_source : goal.decreases-same_source
decreases-same_source l = weight_from (from_of l.a.now)

abbrev pub decreases-same_text : goal.decreases-same_text
decreases-same_text l = weight_texts (texts_of l.a.now)

abbrev pub invariant-same_integer-terms : goal.invariant-same_integer-terms
invariant-same_integer-terms l =
    ((outer_form l.x ≡ outer_form l.y) ↔ (integers_of l.fn.a ≡ integers_of l.fn.b)) × (weight_integers (outer_form l.x) ≤ weight_integers (integers_of l.fn.a))

abbrev pub decreases-same_integer-terms : goal.decreases-same_integer-terms
decreases-same_integer-terms l = weight_integers (outer_form l.x)
