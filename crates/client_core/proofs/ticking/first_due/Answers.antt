use Rattle.std.proofs.Common.{◌<◌, arith}
use Rattle.std.proofs.lemmas.Option.{slice_get_within}
use Rattle.client_core.specs.declared.ticking.Ticking.{Ticking}
use Rattle.client_core.proofs.Places.{all_places, first_due_is}
use Rattle.client_core.proofs.ticking.first_due.Goals as goal

pub returns : goal.returns
returns c = all_places (λ (t : Ticking). c.args.second < t.at) c.args.ticking.now (λ k t there. let h = slice_get_within c.args.ticking.now k t there in c.loop-place.invariant k t (omega (arith, h)) there)

pub returns-then-ticking-place : goal.returns-then-ticking-place
returns-then-ticking-place c = first_due_is c.args.second c.args.ticking.now c.loop-place.place _ c.loop-place-test.true c.if-ticking-place.true c.loop-place.invariant
