use Rattle.std.proofs.Common.{List, length, map, sym, ap, ◌∙◌}
use Rattle.std.proofs.lemmas.List.{length-map}
use Rattle.value_core.specs.Contents.{Contents, kind_of}
use Rattle.decl_core.specs.Bodies.{body_of}
use Rattle.known_core.specs.Masks.{known_by}
use Rattle.known_core.proofs.AllKnown.{is_done, tells_whole, within, none}
use Rattle.known_core.proofs.whole.evaluate_whole.Goals as goal

pub needing_nothing-requires-clause-there : goal.needing_nothing-requires-clause-there
needing_nothing-requires-clause-there c =
    let many = ap length c.deref.ensures.value ∙ sym (length-map c.evaluate_into.new.parts.values.items kind_of) ∙ ap length c.in-Err.ensures.kinds ∙ length-map c.args.parts.now.values.items kind_of in
    within (known_by c.full.result) (body_of c.args.operation.now) c.args.args.now c.args.parts.now.values.items c.deref.result.now c.in-Err.stop c.in-Err.ensures.left many

pub needing_nothing-requires-clause-none : goal.needing_nothing-requires-clause-none
needing_nothing-requires-clause-none c =
    none c.full.result (body_of c.args.operation.now) c.args.args.now c.args.parts.now.values.items c.deref.result.now c.in-Err.stop c.full.ensures.full c.in-Err.ensures.left
    (ap (λ (vs : List Contents). map kind_of vs) c.deref.ensures.value ∙ c.in-Err.ensures.kinds)

pub returns-in-Ok-clause-done : goal.returns-in-Ok-clause-done
returns-in-Ok-clause-done c = is_done (known_by c.full.result) (body_of c.args.operation.now) c.args.args.now c.args.parts.now.values.items c.evaluate_into.new.parts.values.items c.evaluate_into.new.reply c.in-Ok.ensures.left

pub returns-in-Err-clause-stopped : goal.returns-in-Err-clause-stopped
returns-in-Err-clause-stopped c = tells_whole (known_by c.full.result) (body_of c.args.operation.now) c.args.args.now c.args.parts.now.values.items c.in-Err.stop c.needing_nothing.result c.in-Err.ensures.left c.needing_nothing.ensures
