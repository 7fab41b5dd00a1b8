use Rattle.std.proofs.Common.{subst, Option, ℕ}
use Rattle.table_core.specs.Parts.{LetsGoAt}
use Rattle.table_core.specs.Seen.{seen}
use Rattle.table_core.proofs.Cancelling.{one_ended, one_cancelled}
use Rattle.table_core.proofs.table.Table.cancel_now.Goals as goal

pub returns-in_ok-answer_cancel-in-None : goal.returns-in_ok-answer_cancel-in-None
returns-in_ok-answer_cancel-in-None c = one_ended c.args.post.now c.let_go.new.post c.answer_cancel.new.post (seen c.args.self.now) (seen c.let_go.new.self) (seen c.answer_cancel.new.self) c.args.place c.args.at
    c.args.session c.args.told (subst (λ (r : Option ℕ). LetsGoAt c.args.at c.args.session r c.args.post.now (seen c.args.self.now) c.let_go.new.post (seen c.let_go.new.self)) c.in-None.is c.in_ok-let_go.ensures) c.in_ok-answer_cancel-in-None.ensures

pub returns-in_ok-tell_cancelled-in-Some : goal.returns-in_ok-tell_cancelled-in-Some
returns-in_ok-tell_cancelled-in-Some c = one_cancelled c.args.post.now c.let_go.new.post c.tell_cancelled.new.post (seen c.args.self.now) (seen c.let_go.new.self) (seen c.tell_cancelled.new.self) c.args.place c.args.at
    c.args.session c.args.told c.in-Some.number (subst (λ (r : Option ℕ). LetsGoAt c.args.at c.args.session r c.args.post.now (seen c.args.self.now) c.let_go.new.post (seen c.let_go.new.self)) c.in-Some.is c.in_ok-let_go.ensures) c.in_ok-tell_cancelled-in-Some.ensures
