use Rattle.table_core.specs.Seen.{seen}
use Rattle.table_core.proofs.Turning.{not_true, not_false, withdraws_nobody, withdraws_idle, withdraws_at}
use Rattle.table_core.proofs.table.Table.withdraw_at.Goals as goal

pub returns-in_default : goal.returns-in_default
returns-in_default c = withdraws_nobody c.args.post.now (seen c.args.self.now) c.args.place c.in_default.ensures

pub returns-then-not-opened : goal.returns-then-not-opened
returns-then-not-opened c = withdraws_idle c.args.post.now (seen c.args.self.now) c.args.place c.in-Some.opened c.in-Some.ensures (not_true c.in-Some.opened.waits c.if-not-opened.true)

pub returns : goal.returns
returns c = withdraws_at c.args.post.now c.withdraw.new.post (seen c.args.self.now) (seen c.withdraw.new.self) c.args.place c.in-Some.opened c.in-Some.ensures (not_false c.in-Some.opened.waits c.if-not-opened.false) c.in_ok-withdraw.ensures
