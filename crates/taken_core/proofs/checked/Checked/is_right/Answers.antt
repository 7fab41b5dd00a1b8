use Rattle.std.proofs.Common.{sym, ◌∙◌}
use Rattle.taken_core.proofs.Taking.{right_front_tests, right_round_tests}
use Rattle.taken_core.proofs.checked.Checked.is_right.Goals as goal

pub returns-then-begins_with : goal.returns-then-begins_with
returns-then-begins_with c = right_front_tests c.is_front_right.result c.args.line.now c.args.size c.args.self.now (sym c.begins_with.ensures ∙ c.if-begins_with.true) c.is_front_right.ensures

pub returns : goal.returns
returns c = right_round_tests c.is_round_right.result c.args.line.now c.args.size c.args.self.now c.requires (sym c.begins_with.ensures ∙ c.if-begins_with.false) c.is_round_right.ensures
