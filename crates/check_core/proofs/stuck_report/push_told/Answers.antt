use Rattle.decl_core.specs.ObjectMap.{object_of}
use Rattle.check_core.proofs.Said.{told_is}
use Rattle.check_core.proofs.stuck_report.push_told.Goals as goal

pub returns : goal.returns
returns c =
    told_is (object_of c.args.object.now) c.deref.result.now c.count_of-count.result c.in_ok-found.found c.push_found.new.out.items c.args.out.now.items c.deref-2.result.now c.is_losing.result
    c.deref.ensures.value c.count_of-count.ensures c.in_ok-found.ensures c.in_ok-push_found.ensures c.deref-2.ensures.value c.is_losing.ensures
