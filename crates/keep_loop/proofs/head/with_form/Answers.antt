use Rattle.std.proofs.Common.{◌∙◌}
use Rattle.keep_loop.proofs.Heads.{named_form}
use Rattle.keep_loop.proofs.head.with_form.Goals as goal

pub returns-in_ok-behind-in-Some : goal.returns-in_ok-behind-in-Some
returns-in_ok-behind-in-Some c =
    let n = c.in-Some.ensures in
    named_form c.named.result c.args.front.now c.in-Some.word.now c.in-Some.rest.now c.deref.result.now n.0 n.1 (c.deref.ensures.value ∙ c.in_ok-behind-in-Some.ensures) c.named.ensures
