use Rattle.std.proofs.Common.{sym, subst}
use Rattle.decl_core.specs.HoldMap.{holds_of}
use Rattle.word_core.specs.Answers.{refused_line}
use Rattle.word_core.specs.ScriptView.{said_view}
use Rattle.world_core.specs.Does.{Does}
use Rattle.world_core.proofs.ScriptTelling.{told_lines}
use Rattle.world_core.specs.HoldDoes.{Acts, Refuses, ward, refused, goes_on}
use Rattle.world_core.proofs.Acting.{on_told}
use Rattle.world_core.proofs.acts.act.Goals as goal

pub returns-in-Some : goal.returns-in-Some
returns-in-Some c =
    told_lines c.push_refused.result c.push_refused.new.out.items c.args.out.now.items (refused_line c.in-Some.word.now) (λ t. Acts (holds_of c.args.rules.now) (ward c.args.world.now c.args.holds.now c.args.gone.now.items) (said_view c.args.said) t c.args.world.now c.args.gone.now.items) c.push_refused.ensures
    (refused (subst (λ g. Refuses (holds_of c.args.rules.now) c.args.world.now.board c.args.holds.now g (said_view c.args.said) c.in-Some.word.now) c.deref.ensures.value
    (subst (λ b. Refuses (holds_of c.args.rules.now) b c.args.holds.now c.deref.result.now (said_view c.args.said) c.in-Some.word.now) c.desk.ensures.desk c.in-Some.ensures)))

pub returns : goal.returns
returns c =
    on_told c.answer_said.result c.answer_said.new.out.items c.args.out.now.items (λ t. Does (said_view c.args.said) c.args.world.now t c.answer_said.new.world) (λ t. Acts (holds_of c.args.rules.now) (ward c.args.world.now c.args.holds.now c.args.gone.now.items) (said_view c.args.said) t c.answer_said.new.world c.args.gone.now.items)
    (λ t does. goes_on (record { no_drop = c.in_default-leaving.ensures; no_resume = c.in_default-coming.ensures })
    (λ word is. c.in_default.ensures word (subst (λ b. Refuses (holds_of c.args.rules.now) b c.args.holds.now c.deref.result.now (said_view c.args.said) word) (sym c.desk.ensures.desk) (subst (λ g. Refuses (holds_of c.args.rules.now) c.args.world.now.board c.args.holds.now g (said_view c.args.said) word) (sym c.deref.ensures.value) is)))
    does) c.answer_said.ensures
