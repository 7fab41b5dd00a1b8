use Rattle.std.proofs.Common.{◌≡◌, drop}
use Rattle.decl_core.specs.Terms.{named_in_terms}
use Rattle.decl_core.proofs.footprint.+naming.Given as goal

abbrev pub invariant-named_by_terms-loop-term : goal.invariant-named_by_terms-loop-term
invariant-named_by_terms-loop-term l = named_in_terms (drop l.term-index l.terms) l.named ≡ named_in_terms l.terms l.so_far
