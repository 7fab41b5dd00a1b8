use Rattle.std.proofs.Common.{refl, subst}
use Rattle.word_core.specs.Says.{Says}
use Rattle.word_core.specs.Answers.{bad_line}
use Rattle.world_core.specs.Asked.{asked_of, view_of, why, who}
use Rattle.world_core.specs.Tries.{helped, listed, bad}
use Rattle.world_core.proofs.PromptAsked.{no_list, who_no_list, gives_asked}
use Rattle.world_core.proofs.prompt.machine.Prompt.answer_other.Goals as goal

pub returns-then-is_alone : goal.returns-then-is_alone
returns-then-is_alone c = (c.args.self.now.texts.help.now, c.in_ok-extend_from_slice.ensures.items, (helped c.requires (c.if-is_alone.ensures.0 refl), refl))

pub returns-in_ok-extend_from_slice-in-Some-List : goal.returns-in_ok-extend_from_slice-in-Some-List
returns-in_ok-extend_from_slice-in-Some-List c = (
  c.args.self.now.texts.list.now,
  c.in_ok-extend_from_slice-in-Some-List.ensures.items,
  (listed c.requires (subst (λ q. Says asked_of c.args.line.now (view_of q)) c.in-Some-List.field-0-is (rw c.in-Some-List.is at c.in_ok-question_of.ensures)), refl),
)

pub returns-in-Some-Why : goal.returns-in-Some-Why
returns-in-Some-Why c =
    gives_asked c.ask.result c.args.self.now c.args.number c.args.line.now c.args.out.now.items c.ask.new.out.items (why c.in-Some-Why.number) c.requires
    (subst (λ q. Says asked_of c.args.line.now (view_of q)) c.in-Some-Why.field-0-is (rw c.in-Some-Why.is at c.in_ok-question_of.ensures)) (no_list c.in-Some-Why.number) c.ask.ensures

pub returns-in-Some-Who : goal.returns-in-Some-Who
returns-in-Some-Who c =
    gives_asked c.ask-in-Some-Who.result c.args.self.now c.args.number c.args.line.now c.args.out.now.items c.ask-in-Some-Who.new.out.items who c.requires
    (subst (λ q. Says asked_of c.args.line.now (view_of q)) c.in-Some-Who.field-0-is (rw c.in-Some-Who.is at c.in_ok-question_of.ensures)) who_no_list c.ask-in-Some-Who.ensures

pub returns-in_ok-push_bad_line-in-None : goal.returns-in_ok-push_bad_line-in-None
returns-in_ok-push_bad_line-in-None c =
    (bad_line c.args.number, c.in_ok-push_bad_line-in-None.ensures, (bad c.requires (λ p. let h = c.if-is_alone.ensures.1 p in cc) (rw c.in-None.is at c.in_ok-question_of.ensures), refl))
