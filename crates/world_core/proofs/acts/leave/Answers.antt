use Rattle.std.proofs.Common.{◌≡◌, ◌∙◌, true, false, sym, ap, subst}
use Rattle.decl_core.specs.HoldForm.{is_one_of}
use Rattle.page_core.proofs.Lists.{true_false}
use Rattle.word_core.specs.Said.{a_drop}
use Rattle.word_core.specs.Answers.{dropped_line}
use Rattle.world_core.proofs.ScriptTelling.{told_lines}
use Rattle.world_core.specs.HoldDoes.{Acts, ward, has_left, leaves, no_session}
use Rattle.world_core.proofs.acts.leave.Goals as goal

pub returns-then-is_among : goal.returns-then-is_among
returns-then-is_among c = λ holds held.
    told_lines c.push_dropped.result c.push_dropped.new.out.items c.args.out.now.items (dropped_line c.args.session) (λ t. Acts holds (ward c.args.world.now held c.args.gone.now.items) (a_drop c.args.session) t c.args.world.now c.args.gone.now.items) c.push_dropped.ensures
    (has_left (ap (λ xs. is_one_of xs c.args.session) (sym c.deref.ensures.value) ∙ sym c.is_among.ensures ∙ c.if-is_among.true))

pub returns-in_ok-push : goal.returns-in_ok-push
returns-in_ok-push c = λ holds held.
    let told = c.in_ok-answer_said.ensures in
    let away : is_one_of c.args.gone.now.items c.args.session ≡ false = ap (λ xs. is_one_of xs c.args.session) (sym c.deref.ensures.value) ∙ sym c.is_among.ensures ∙ c.if-is_among.false in (
      told.0,
      told.1,
      subst (λ g. Acts holds (ward c.args.world.now held c.args.gone.now.items) (a_drop c.args.session) told.0 c.answer_said-then-is_session.new.world g) (sym c.in_ok-push.ensures.items) (leaves away (c.is_session.ensures.0 c.if-is_session.true) told.2 c.in_ok-answer_said-2.ensures.2),
    )

pub returns-else-is_session : goal.returns-else-is_session
returns-else-is_session c = λ holds held.
    let told = c.in_ok-answer_said.ensures in
    let away : is_one_of c.args.gone.now.items c.args.session ≡ false = ap (λ xs. is_one_of xs c.args.session) (sym c.deref.ensures.value) ∙ sym c.is_among.ensures ∙ c.if-is_among.false in
    (told.0, told.1, no_session away (λ s. true_false c.is_session.result (c.is_session.ensures.1 s) c.if-is_session.false) told.2)
