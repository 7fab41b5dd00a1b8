use Rattle.std.proofs.Common.{◌++◌, ap, ◌∙◌, append_assoc}
use Rattle.std.specs.Prelude.{codes, decimal}
use Rattle.value_core.specs.Reply.{reply}
use Rattle.recover_core.proofs.said.push_breach.Goals as goal

pub returns : goal.returns
returns c =
    let path = reply (codes " breaks path ") (decimal c.args.path) in
    c.in_ok-push_count.ensures ∙ ap (λ t. t ++ path) c.in_ok-push_number.ensures ∙ append_assoc c.args.out.now.items (codes " line " ++ decimal c.args.line) path
