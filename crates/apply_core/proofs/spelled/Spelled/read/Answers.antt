use Rattle.std.proofs.Common.{◌≡◌, sym, subst, rules}
use Rattle.std.specs.Prelude.{IsTrue}
use Rattle.value_bytes.specs.Spelling.{Spells}
use Rattle.apply_core.specs.There.{contents_there}
use Rattle.apply_core.proofs.Holding.{found}
use Rattle.apply_core.proofs.spelled.Spelled.read.Goals as goal

pub invariant_of-result : goal.invariant_of-result
invariant_of-result c =
    let yes : IsTrue c.spell.result = search rules in
    let one = c.spell.ensures.yes yes in
    subst (λ b. Spells b c.args.kind (contents_there c.args.kind b)) (sym (c.in_ok-bytes.ensures.items_if_clones_equal (λ x y is. is))) (found c.args.kind c.args.bytes.now one.0 one.1)

pub returns-clause-found : goal.returns-clause-found
returns-clause-found c =
    let yes : IsTrue c.spell.result = search rules in
    let one = c.spell.ensures.yes yes in
    let same : c.in_ok-bytes.bytes.items ≡ c.args.bytes.now = c.in_ok-bytes.ensures.items_if_clones_equal (λ x y is. is) in
    subst (λ b. Spells c.args.bytes.now c.args.kind (contents_there c.args.kind b)) (sym same) (found c.args.kind c.args.bytes.now one.0 one.1)
