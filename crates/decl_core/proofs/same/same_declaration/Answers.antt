use Rattle.std.proofs.Common.{sym, ap, ◌∙◌}
use Rattle.decl_core.specs.View.{all_of}
use Rattle.decl_core.specs.ObjectMap.{operation_of, params_of}
use Rattle.decl_core.proofs.SameForms.{forms_same}
use Rattle.decl_core.proofs.same.same_declaration.Goals as goal

pub returns : goal.returns
returns c =
    forms_same (operation_of c.args.a.now) (operation_of c.args.b.now) c.same_kinds.result
    (c.same_name.ensures.0 c.if-not-same_name.false)
    (sym (ap params_of c.deref.ensures.value) ∙ c.same_params.ensures.0 c.if-not-same_params.false ∙ ap params_of c.deref-2.ensures.value)
    (c.same_reply.ensures.0 c.if-not-same_reply.false)
    (sym (ap all_of c.deref-else-not-same_params.ensures.value) ∙ c.same_block.ensures.0 c.if-not-same_block.false ∙ ap all_of c.deref-else-not-same_params-2.ensures.value)
    (λ h. sym c.deref-3.ensures.value ∙ c.same_kinds.ensures.0 h ∙ c.deref-4.ensures.value, λ e. c.same_kinds.ensures.1 (c.deref-3.ensures.value ∙ e ∙ sym c.deref-4.ensures.value))
