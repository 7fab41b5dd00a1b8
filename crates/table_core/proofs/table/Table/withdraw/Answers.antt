use Rattle.std.proofs.Common.{subst, Option, ℕ}
use Rattle.table_core.specs.Parts.{LetsGoAt}
use Rattle.table_core.specs.Seen.{seen}
use Rattle.table_core.proofs.Cancelling.{withdraws_one}
use Rattle.table_core.proofs.table.Table.withdraw.Goals as goal

pub returns-in_ok-withdrawn-in-Some : goal.returns-in_ok-withdrawn-in-Some
returns-in_ok-withdrawn-in-Some c = withdraws_one c.args.post.now c.let_go.new.post c.withdrawn.new.post (seen c.args.self.now) (seen c.let_go.new.self) (seen c.withdrawn.new.self) c.args.at c.args.session c.in-Some.number
    (subst (λ (r : Option ℕ). LetsGoAt c.args.at c.args.session r c.args.post.now (seen c.args.self.now) c.let_go.new.post (seen c.let_go.new.self)) c.in-Some.is c.in_ok-let_go.ensures) c.in_ok-withdrawn-in-Some.ensures
