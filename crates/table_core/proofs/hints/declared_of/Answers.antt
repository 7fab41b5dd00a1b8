use Rattle.std.proofs.Common.{◌∙◌, ap}
use Rattle.std.specs.Arc.{arc_value}
use Rattle.decl_core.specs.declared.object.Operation.{Operation}
use Rattle.decl_core.specs.ObjectMap.{operation_of}
use Rattle.client_core.specs.Refusals.{declared_text}
use Rattle.table_core.proofs.Hinting.{mapped_there}
use Rattle.table_core.proofs.hints.declared_of.Goals as goal

pub returns-in-Ok : goal.returns-in-Ok
returns-in-Ok c = (
  c.args.operation,
  operation_of (arc_value c.in-Some.found.now),
  mapped_there (λ o. operation_of (arc_value o)) c.deref.result.now c.args.object.now.operations.items c.args.operation c.in-Some.found.now c.deref.ensures.value c.in-Some.ensures.lookup.3.0 c.in-Some.ensures.lookup.1,
  c.in-Ok.ensures ∙ ap (λ (o : Operation). declared_text (operation_of o)) c.deref-in-Some.ensures,
)
