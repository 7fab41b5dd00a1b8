use Rattle.std.proofs.Common.{◌≡◌, ◌∙◌, subst}
use Rattle.decl_core.specs.declared.object.Operation.{Operation}
use Rattle.apply_core.specs.Fits.{ArgumentsFit}
use Rattle.decl_core.specs.HoldMap.{holds_of}
use Rattle.page_core.proofs.Lists.{true_false}
use Rattle.board_core.specs.Answers.{IsGone, IsNamedAt}
use Rattle.world_core.specs.HoldDoes.{asked}
use Rattle.world_core.proofs.Refusing.{lacks_is, may_is, not_is, is_not, found_at}
use Rattle.world_core.proofs.refused.lacks.Goals as goal

pub returns : goal.returns
returns c =
    let a = asked c.args.session c.args.op.now c.args.arguments.now in
    let at = c.in-Some.ensures.some in
    let object : c.object-object.result.now ≡ c.args.desk.now.object = c.object-object.ensures.same ∙ c.accepted.ensures in
    let operation : Operation = at.0 in
    let named : IsNamedAt c.args.desk.now.object c.in-Some.place operation c.args.op.now = subst (λ n. IsNamedAt c.args.desk.now.object c.in-Some.place operation n) c.as_bytes.ensures.value (subst (λ o. IsNamedAt o c.in-Some.place operation c.as_bytes.result.now) object at.1) in
    let here : IsGone c.args.desk.now c.args.session → ⊥ = λ g. true_false c.is_gone.result (c.is_gone.ensures.1 g) c.if-is_gone.false in (
      λ h. lacks_is (holds_of c.args.rules.now) c.args.holds.now c.args.desk.now a c.in-Some.place operation here named (subst (λ x. ArgumentsFit x c.args.arguments.now) (found_at c.object-object.result.now c.in-Some.place operation c.index.result.now c.deref.result.now at.1.there c.index.ensures c.deref.ensures) (c.arguments_fit.ensures.0 c.if-not-arguments_fit.false)) (λ may. true_false c.may_undo.result (c.may_undo.ensures.1 may) (not_is c.may_undo.result h)),
      λ lacking. is_not c.may_undo.result (λ t. may_is (holds_of c.args.rules.now) c.args.holds.now c.args.desk.now a c.in-Some.place operation named (c.may_undo.ensures.0 t) lacking),
    )
