use Rattle.std.proofs.Common.{subst}
use Rattle.word_core.specs.Answers.{bad_line}
use Rattle.world_core.specs.Asked.{view_of}
use Rattle.decl_core.specs.HoldMap.{holds_of}
use Rattle.world_core.specs.HoldAsked.{IsHeldTold}
use Rattle.world_core.specs.HoldWrites.{asked, bad}
use Rattle.world_core.proofs.machine.HeldScript.answer_other.Goals as goal

pub returns-in_ok-answer_asked-in-Some : goal.returns-in_ok-answer_asked-in-Some
returns-in_ok-answer_asked-in-Some c =
    let told = c.in_ok-answer_asked-in-Some.ensures in
    let by_rules = subst (λ rs. IsHeldTold (holds_of rs) c.args.self.now.holds c.desk.result.now (view_of c.in-Some.question) told.0) c.deref.ensures.value told.2 in
    (told.0, told.1, asked (view_of c.in-Some.question) c.requires.named c.requires.other (rw c.in-Some.is at c.in_ok-question.ensures) (subst (λ b. IsHeldTold (holds_of c.args.self.now.rules.items) c.args.self.now.holds b (view_of c.in-Some.question) told.0) c.desk.ensures.desk by_rules))

pub returns-in_ok-push_bad_line-in-None : goal.returns-in_ok-push_bad_line-in-None
returns-in_ok-push_bad_line-in-None c =
    (bad_line c.args.number, c.in_ok-push_bad_line-in-None.ensures, bad c.requires.named c.requires.other (rw c.in-None.is at c.in_ok-question.ensures))
