use Rattle.std.proofs.Common.{rules, ◌≡◌, ◌∙◌, sym, ap, List, Option, Some}
use Rattle.std.specs.Prelude.{slice_get}
use Rattle.std.specs.Arc.{arc_value}
use Rattle.std.specs.Int.{bit_at}
use Rattle.value_core.specs.declared.kind.Elem.TheVariants as elem
use Rattle.value_core.specs.declared.kind.Kind.{Kind}
use Rattle.value_core.specs.declared.kind.Kind.TheVariants as kind
use Rattle.decl_core.specs.declared.object.Operation.{Operation}
use Rattle.run_core.specs.Tasks.{task_call}
use Rattle.run_core.proofs.Places.{is_paged}
use Rattle.run_core.proofs.seen.paged.Goals as goal

pub returns-then-are_full-clause-some : goal.returns-then-are_full-clause-some
returns-then-are_full-clause-some c =
    let bit : bit_at c.args.task.now.reads c.args.part ≡ 1 = search rules in
    let kinds : c.deref-2.result.now ≡ (arc_value c.args.task.now.operation).kinds.items = c.deref-2.ensures.value ∙ ap (λ (o : Operation). o.kinds.items) c.deref.ensures in
    let held : slice_get (arc_value c.args.task.now.operation).kinds.items c.args.part ≡ Some (Some (kind.Array c.in-Some.count elem.Integer)) = sym (ap (λ (ks : List (Option Kind)). slice_get ks c.args.part) kinds) ∙ c.in-Some.ensures.some in
    is_paged (task_call c.args.task.now) c.args.part c.in-Some.count c.pages_of.result.now (c.args.task.now.only c.args.part bit) held c.pages_of.ensures (search rules)
