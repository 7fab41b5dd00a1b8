use Rattle.std.proofs.Common.{sym, ◌∙◌}
use Rattle.keep_loop.proofs.Heads.{begins_not, behind_is}
use Rattle.keep_loop.proofs.check_lines.behind_word.Goals as goal

pub returns-then-begins_with : goal.returns-then-begins_with
returns-then-begins_with c = behind_is c.args.word.now c.args.text.now (sym c.begins_with.ensures ∙ c.if-begins_with.true)

pub returns : goal.returns
returns c rest is = begins_not c.args.word.now c.args.text.now rest (sym c.begins_with.ensures ∙ c.if-begins_with.false) is
