use Rattle.std.proofs.Common.{subst}
use Rattle.word_core.specs.Answers.{bad_line}
use Rattle.world_core.specs.Asked.{view_of}
use Rattle.world_core.specs.Told.{IsTold}
use Rattle.world_core.specs.Writes.{asked, bad}
use Rattle.world_core.proofs.script.machine.Script.answer_other.Goals as goal

pub returns-in_ok-push_answer-in-Some : goal.returns-in_ok-push_answer-in-Some
returns-in_ok-push_answer-in-Some c =
    let told = c.in_ok-push_answer-in-Some.ensures in
    (told.0, told.1, asked (view_of c.in-Some.question) c.requires.named c.requires.other (rw c.in-Some.is at c.in_ok-question.ensures) (subst (λ b. IsTold b (view_of c.in-Some.question) told.0) c.desk.ensures.desk told.2))

pub returns-in_ok-push_bad_line-in-None : goal.returns-in_ok-push_bad_line-in-None
returns-in_ok-push_bad_line-in-None c =
    (bad_line c.args.number, c.in_ok-push_bad_line-in-None.ensures, bad c.requires.named c.requires.other (rw c.in-None.is at c.in_ok-question.ensures))
