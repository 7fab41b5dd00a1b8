use Rattle.std.proofs.Common.{◌≡◌, ◌∷◌, ◌++◌, [], List, ℕ, subst, arith}
use Rattle.std.specs.Prelude.{IfOk}
use Rattle.std.proofs.lemmas.Grind.{common_steps}
use Rattle.keep_loop.proofs.Heads.{without_joined, without_second, without_first}
use Rattle.keep_loop.proofs.head.without_form.Goals as goal

pub returns-in-Some-split_space : goal.returns-in-Some-split_space
returns-in-Some-split_space c =
    let first = c.in-Some.first.now in
    let second = c.in-Some-split_space.second.now in
    without_joined c.joined.result c.args.text.now first c.in-Some.rest.now second c.in-Some-split_space.more.now c.in-Some.ensures.0 c.in-Some.ensures.1 c.in-Some-split_space.ensures.0 c.in-Some-split_space.ensures.1
    (subst (λ (l : List ℕ). IfOk c.joined.result (λ t. t.items ≡ (((first ++ 32 ∷ []) ++ second) ++ 32 ∷ []) ++ l)) c.behind_nine.ensures c.joined.ensures)

pub returns-in_ok-to_vec-in-None-split_space : goal.returns-in_ok-to_vec-in-None-split_space
returns-in_ok-to_vec-in-None-split_space c =
    grind (arith, common_steps, without_second c.args.text.now c.in-Some.first.now c.in-Some.rest.now c.in-Some.ensures.0 c.in-Some.ensures.1 c.in-None-split_space.ensures)

pub returns-in_ok-to_vec-in-None : goal.returns-in_ok-to_vec-in-None
returns-in_ok-to_vec-in-None c = grind (arith, common_steps, without_first c.args.text.now c.in-None.ensures)
