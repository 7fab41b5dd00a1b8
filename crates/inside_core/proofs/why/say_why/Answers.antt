use Rattle.std.proofs.Common.{◌∙◌, ap, subst, List, [], ◌++◌}
use Rattle.decl_core.specs.ObjectMap.{object_of}
use Rattle.stuck_core.specs.declared.reason.Reason.{Reason}
use Rattle.stuck_core.specs.ReasonViews.{whys_of}
use Rattle.stuck_core.specs.Why.{why_text}
use Rattle.client_core.specs.ToldInside.{AreWhys}
use Rattle.inside_core.proofs.why.say_why.Goals as goal

pub returns : goal.returns
returns c = record {
  place = c.requires.there.0;
  call = c.args.call.now;
  there = c.requires.there.1;
  told_is = c.requires.told;
  whys = whys_of c.in_ok-reasons.reasons.items;
  are = subst (λ op. AreWhys c.args.object.now op (whys_of c.in_ok-reasons.reasons.items)) c.operation.ensures c.in_ok-reasons.ensures;
  text_is = c.in_ok-push_reasons.ensures
      ∙ ap (λ l. l ++ why_text (object_of c.args.object.now.hall.object) c.args.told (whys_of c.deref.result.now) []) c.new-out.ensures.items
      ∙ ap (λ (l : List Reason). why_text (object_of c.args.object.now.hall.object) c.args.told (whys_of l) []) c.deref.ensures.value;
}
