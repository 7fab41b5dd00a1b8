use Rattle.std.proofs.Common.{length, refl, subst, arith}
use Rattle.std.specs.Prelude.{All}
use Rattle.std.proofs.lemmas.List.{take_all}
use Rattle.std.proofs.lemmas.Option.{slice_get_read}
use Rattle.client_core.specs.Start.{IsAmong}
use Rattle.client_core.proofs.Starting.{all_among}
use Rattle.client_core.proofs.start.go_all.Goals as goal

pub loop-place-preserved : goal.loop-place-preserved
loop-place-preserved c =
    let held = c.args.held.now in
    let place = c.loop-place.place in
    let one = c.index-held-place.result in (
      c.in_ok-go_one.ensures.gone held place (slice_get_read held (length held) place one refl c.loop-place-test.true c.index-held-place.is) c.loop-place.invariant.0,
      all_among c.go_one.new.gone.items c.loop-place.gone.items held place one c.loop-place-test.true c.index-held-place.is c.in_ok-go_one.ensures.more c.in_ok-go_one.ensures.among c.loop-place.invariant.1,
    )

pub returns-clause-all : goal.returns-clause-all
returns-clause-all c = subst (λ xs. All (IsAmong c.loop-place.gone.items) xs) (take_all c.loop-place.place c.args.held.now (omega arith)) c.loop-place.invariant.1
