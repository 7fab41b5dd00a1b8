use Rattle.std.proofs.Common.{sym, ◌∙◌}
use Rattle.keep_loop.proofs.Heads.{spelled_is, spelled_not}
use Rattle.taken_core.proofs.format.is_spelled.Goals as goal

pub returns-then-begins_with-clause-spelled : goal.returns-then-begins_with-clause-spelled
returns-then-begins_with-clause-spelled c =
    spelled_is c.args.word.now c.args.text.now c.args.size c.deref.result.now (c.deref.ensures.value ∙ c.in_ok-spell.ensures) (sym c.begins_with.ensures ∙ c.if-begins_with.true)

pub returns-clause-spelled : goal.returns-clause-spelled
returns-clause-spelled c = λ more.
    spelled_not c.args.word.now c.args.text.now c.args.size c.deref.result.now more.0 (c.deref.ensures.value ∙ c.in_ok-spell.ensures) (sym c.begins_with.ensures ∙ c.if-begins_with.false) more.1
