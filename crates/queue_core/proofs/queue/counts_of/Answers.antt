use Rattle.std.proofs.Common.{◌<◌, ◌∙◌, ◌≡◌, ◌∷◌, [], ◌++◌, arith, refl, sym, ap, subst, Some, take, length-take-le}
use Rattle.std.specs.Prelude.{slice_get}
use Rattle.std.proofs.lemmas.List.{take_all, take_more}
use Rattle.std.proofs.lemmas.Option.{slice_get-get_or}
use Rattle.page_core.proofs.Lists.{Every-at}
use Rattle.page_core.specs.ObjectCalls.{WaitingCall}
use Rattle.queue_core.specs.Queue.{AreCounted}
use Rattle.queue_core.proofs.queue.counts_of.Goals as goal

pub loop-place-init : goal.loop-place-init
loop-place-init c = (λ op. omega arith, refl)

at_place : (c : goal.After-op) → slice_get c.args.rows.now c.loop-place.place ≡ Some c.index-rows-place.result
at_place c = slice_get-get_or c.args.rows.now c.loop-place.place c.index-rows-place.result c.loop-place-test.true ∙ ap Some (sym c.index-rows-place.is)

pub count_in-requires : goal.count_in-requires
count_in-requires c =
    omega (arith, c.op.ensures, c.loop-place-test.array_long, Every-at (λ (w : WaitingCall). w.call.op < 32) c.args.rows.now c.loop-place.place c.index-rows-place.result c.requires.each (at_place c))

pub loop-place-preserved : goal.loop-place-preserved
loop-place-preserved c = (
  subst (λ ws. AreCounted ws c.count_in.new.counts) (sym (take_more c.args.rows.now c.loop-place.place c.index-rows-place.result c.loop-place-test.true ∙ ap (λ w. take c.loop-place.place c.args.rows.now ++ w ∷ []) (sym c.index-rows-place.is)))
      (c.count_in.ensures.counted (take c.loop-place.place c.args.rows.now) c.index-rows-place.result c.loop-place.invariant.0 (omega (arith, c.requires.few, length-take-le c.loop-place.place c.args.rows.now)) (sym c.op.ensures)),
  c.count_in.ensures.each ∙ c.loop-place.invariant.1,
)

pub returns : goal.returns
returns c = subst (λ ws. AreCounted ws c.loop-place.counts) (take_all c.loop-place.place c.args.rows.now c.loop-place-test.false) c.loop-place.invariant.0
