use Rattle.std.proofs.Common.{◌≡◌, sym, subst, Some, slice_get}
use Rattle.std.specs.Global.{Vec}
use Rattle.live_core.specs.Scene.{Scene}
use Rattle.table_core.specs.Seen.{seen}
use Rattle.table_core.proofs.Submitting.{none_end, one_ends}
use Rattle.table_core.proofs.table.Table.+all_ended.Goals as goal

pub returns-in-None-clause-brings : goal.returns-in-None-clause-brings
returns-in-None-clause-brings t c = λ object there. none_end c.args.post.now (seen c.args.self.now) c.args.at object c.args.all.now c.in-None.ensures.cases

pub returns-in_ok-all_ended-in-Some-clause-brings : goal.returns-in_ok-all_ended-in-Some-clause-brings
returns-in_ok-all_ended-in-Some-clause-brings t c = λ object there.
    one_ends c.args.post.now c.ended.new.post c.all_ended.new.post (seen c.args.self.now) (seen c.ended.new.self) (seen c.all_ended.new.self) c.args.at object c.args.all.now c.in-Some.ran.now c.in-Some.rest.now
    c.in-Some.ensures.cases.0 (c.in_ok-ended-in-Some.ensures.brings object there)
    (c.in_ok-all_ended-in-Some.ensures.brings object (subst (λ (v : Vec Scene). slice_get v.items c.args.at ≡ Some object) (sym c.ended.ensures.same) there))
