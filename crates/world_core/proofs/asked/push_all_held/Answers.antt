use Rattle.std.proofs.Common.{◌∙◌, Some, ap, sym}
use Rattle.std.proofs.lemmas.Option.{slice_get-get_or}
use Rattle.decl_core.specs.ObjectMap.{object_of}
use Rattle.decl_core.specs.HoldMap.{holds_of}
use Rattle.world_core.proofs.HoldAsking.{told_none, told_more, told_all}
use Rattle.world_core.proofs.asked.push_all_held.Goals as goal

pub held-init : goal.held-init
held-init c = told_none (object_of c.args.object.now) (holds_of c.args.rules.now) c.args.held.now c.args.out.now.items

pub held-preserved : goal.held-preserved
held-preserved c =
    let h = c.index-held-place.result in
    told_more (object_of c.args.object.now) (holds_of c.args.rules.now) c.args.held.now c.held.place h c.args.out.now.items c.held.out.items c.push_held_call.new.out.items c.held.invariant
    (slice_get-get_or c.args.held.now c.held.place h c.held-test.true ∙ ap Some (sym c.index-held-place.is)) c.in_ok-push_held_call.ensures

pub returns : goal.returns
returns c = told_all (object_of c.args.object.now) (holds_of c.args.rules.now) c.args.held.now c.held.place c.args.out.now.items c.held.out.items c.held-test.false c.held.invariant
