use Rattle.std.proofs.Common.{sym, ◌∙◌}
use Rattle.client_core.proofs.Cancels.{other_verb, cancel_behind}
use Rattle.client_core.proofs.ask.cancel_of.Goals as goal

pub returns-then-not-is_same_word : goal.returns-then-not-is_same_word
returns-then-not-is_same_word c =
    other_verb c.args.line.now c.in-Some.front.0.now c.in-Some.front.1.now c.in-Some.ensures (sym c.is_same_word.ensures ∙ c.if-not-is_same_word.true)

pub returns : goal.returns
returns c =
    cancel_behind c.args.line.now c.in-Some.front.0.now c.in-Some.front.1.now c.only_number.result c.in-Some.ensures
    (sym c.is_same_word.ensures ∙ c.if-not-is_same_word.false) c.only_number.ensures
