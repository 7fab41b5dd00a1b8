use Rattle.std.proofs.Common.{◌-◌, arith}
use Rattle.decl_core.specs.ObjectMap.{object_of}
use Rattle.decl_core.proofs.Searching.{lent_at, separated_exactly}
use Rattle.decl_core.proofs.search.is_separated_by.Goals as goal

pub returns-in-Some : goal.returns-in-Some
returns-in-Some c =
    let lent = c.in-Some.ensures.lookup in
    let o = object_of c.args.object.now in
    separated_exactly o c.in-Some.path.now c.args.path c.args.node c.args.first c.args.second c.separates_in.result (omega arith)
    (lent_at c.deref.result.now o.paths (c.args.path - 1) c.in-Some.path.now c.deref.ensures.value lent.3.0 lent.1) c.separates_in.ensures
