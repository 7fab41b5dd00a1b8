use Rattle.std.proofs.Common.{◌∙◌, sym, arith}
use Rattle.decl_core.specs.ObjectMap.{object_of}
use Rattle.decl_core.proofs.Searching.{lent_at, within_one_more, within_all, first_of_all}
use Rattle.decl_core.proofs.search.separation_of.Goals as goal

pub returns-in-Some : goal.returns-in-Some
returns-in-Some c =
    let o = object_of c.args.object.now in
    let n = c.loop-place.place in
    let e = c.path-item.result in
    first_of_all o e n c.in-Some.node c.args.first c.args.second c.loop-place.invariant
    (lent_at c.deref-path-items.result.now o.paths n e c.deref-path-items.ensures.value c.loop-place-test.true c.path-item.is)
    (sym c.separation_in.ensures ∙ c.in-Some.is)

pub loop-place-preserved : goal.loop-place-preserved
loop-place-preserved c =
    let o = object_of c.args.object.now in
    let n = c.loop-place.place in
    let e = c.path-item.result in
    within_one_more o e n c.args.first c.args.second c.loop-place.invariant
    (lent_at c.deref-path-items.result.now o.paths n e c.deref-path-items.ensures.value c.loop-place-test.true c.path-item.is)
    (sym c.separation_in.ensures ∙ c.in_default.is)

pub returns : goal.returns
returns c = within_all (object_of c.args.object.now) c.loop-place.place c.args.first c.args.second c.loop-place.invariant (omega arith)
