use Rattle.std.proofs.Common.{sym, ◌∙◌}
use Rattle.std.proofs.lemmas.Bool.{false≢true, eqb-true, eq-eqb}
use Rattle.apply_core.proofs.Integers.{are_integers, no_integers}
use Rattle.apply_core.proofs.strip.are_integers.Goals as goal

pub returns-clause-yes : goal.returns-clause-yes
returns-clause-yes c = λ so. are_integers c.args.count c.args.bytes.now (eqb-true _ _ so) (λ i. (c.type_inv.bytes i).fits)

pub returns-clause-no : goal.returns-clause-no
returns-clause-no c = λ not. no_integers c.args.bytes.now c.args.count (λ e. false≢true (sym not ∙ eq-eqb _ _ e))
