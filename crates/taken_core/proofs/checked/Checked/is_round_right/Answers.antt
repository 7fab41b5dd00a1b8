use Rattle.std.proofs.Common.{sym, ◌∙◌}
use Rattle.taken_core.proofs.Taking.{round_none}
use Rattle.taken_core.proofs.checked.Checked.is_round_right.Goals as goal

pub is_stored_right-requires : goal.is_stored_right-requires
is_stored_right-requires c n rest small is = sym c.in-Some.is ∙ c.size_in.ensures n rest small is

pub returns-in-None : goal.returns-in-None
returns-in-None c done f same r = round_none done c.args.line.now c.args.size c.size_in.result c.size_in.ensures c.in-None.is same c.ranges.size.fits r
