use Rattle.std.proofs.Common.{◌≡◌, ◌++◌, List, ℕ, sym, ◌∙◌, ap}
use Rattle.keep_loop.specs.Journal.{whole}
use Rattle.keep_loop.specs.Taken.{cut, plain}
use Rattle.keep_loop.proofs.Taking.{plain_next, plain_done}
use Rattle.keep_loop.proofs.taken.push_plain.Goals as goal

pub loop-line-preserved : goal.loop-line-preserved
loop-line-preserved c =
    ap (λ (l : List ℕ). l ++ plain (cut (whole c.in-Some.more.now))) c.in_ok-push_line.ensures ∙ plain_next c.loop-line.out.items c.loop-line.rest.now c.in-Some.line.now c.in-Some.more.now c.in-Some.ensures
    ∙ c.loop-line.invariant

pub returns : goal.returns
returns c = sym (plain_done c.loop-line.out.items c.loop-line.rest.now c.in_default.ensures) ∙ c.loop-line.invariant
