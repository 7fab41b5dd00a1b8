use Rattle.std.proofs.Common.{refl, sym, subst, ◌≤◌, All}
use Rattle.std.specs.Vec.{vec_capacity}
use Rattle.std.proofs.lemmas.List.Elements.{All-push}
use Rattle.serve_core.proofs.Gathering.{none_grown}
use Rattle.serve_core.proofs.gather.Gathering.new.Goals as goal

pub loop-preserved : goal.loop-preserved
loop-preserved g c = (
  none_grown c.loop.all.items c.push.new.self.items c.in_ok-gathered.gathered c.loop.counter _ c.loop.invariant.0 c.in_ok-gathered.ensures.0 c.in-Ok.ensures.items refl,
  subst (All (λ a. c.args.sessions ≤ vec_capacity a.seats)) (sym c.in-Ok.ensures.items)
      (All-push (λ a. c.args.sessions ≤ vec_capacity a.seats) c.loop.all.items c.in_ok-gathered.gathered c.loop.invariant.1 c.in_ok-gathered.ensures.1),
)
