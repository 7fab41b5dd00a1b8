use Rattle.std.proofs.Common.{◌≡◌, ◌∙◌, ◌++◌, [], ◌∷◌, Some, ap, sym, subst}
use Rattle.decl_core.specs.declared.object.Object.{Object}
use Rattle.decl_core.specs.ObjectMap.{object_of}
use Rattle.stuck_core.specs.List.{list_text}
use Rattle.world_core.specs.Asked.{view_of}
use Rattle.world_core.specs.Told.{IsTold, operations}
use Rattle.world_core.proofs.answer.push_answer.Goals as goal

pub returns-in_ok-push_only-in-List : goal.returns-in_ok-push_only-in-List
returns-in_ok-push_only-in-List c =
    let b = c.args.desk.now in
    let same : c.object.result.now ≡ b.object = c.object.ensures.same ∙ c.accepted.ensures in
    let text = list_text (b.object.name ∷ []) (Some (object_of b.object)) in (
      text,
      c.in_ok-push_only-in-List.ensures ∙ ap (λ (o : Object). c.args.out.now.items ++ list_text ((object_of o).name ∷ []) (Some (object_of o))) same,
      subst (λ q. IsTold b (view_of q) text) (sym c.in-List.is) operations,
    )
