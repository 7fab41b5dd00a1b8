use Rattle.std.proofs.Common.{◌<◌, ◌+◌, ◌-◌, length, take, drop, subst, sym, arith}
use Rattle.std.specs.Prelude.{IfSome}
use Rattle.path_count.specs.Stands.{StandsFor}
use Rattle.path_count.specs.Past.{events_of}
use Rattle.audit_core.specs.Counting.{AreCounters}
use Rattle.audit_core.proofs.Paths.{counted_more}
use Rattle.audit_core.proofs.counts.each_behind.Goals as goal

pub loop-place-preserved : goal.loop-place-preserved
loop-place-preserved c =
    let i = c.loop-place.place in
    let t = events_of c.args.past.now in
    let inside : i < length c.args.paths.now = omega arith in
    let one : StandsFor c.in-Some.counters c.args.n_ops (take ((i + 1) - i) (drop i c.args.paths.now)) t =
    subst (λ f. IfSome f (λ x. StandsFor x c.args.n_ops (take ((i + 1) - i) (drop i c.args.paths.now)) t)) c.in-Some.is c.in_ok-counters.ensures.stands in
    subst (λ v. AreCounters v c.args.n_ops (take (i + 1) c.args.paths.now) t) (sym c.in_ok-push.ensures.items)
    (counted_more c.loop-place.all.items c.args.n_ops c.args.paths.now t i c.in-Some.counters inside c.loop-place.invariant one)
