use Rattle.std.proofs.Common.{◌∙◌, refl, length, ap}
use Rattle.std.proofs.lemmas.Option.{slice_get_read, get_or_from_slice_get}
use Rattle.page_core.proofs.Lists.{true_false}
use Rattle.queue_core.proofs.Fronts.{Every-more}
use Rattle.office_core.specs.Slips.{Told, StandsIn}
use Rattle.office_core.proofs.find.first_mismatched_slip.Goals as goal

pub returns-then-not-stands_in-clause-some : goal.returns-then-not-stands_in-clause-some
returns-then-not-stands_in-clause-some c =
    let xs = c.args.slips.now in
    let x = c.index-slips-k.result in
    let at = slice_get_read xs (length xs) c.loop-k.k x refl c.loop-k-test.true c.index-slips-k.is in
    record {
      receipt = x;
      there = at;
      of = c.place.ensures ∙ ap (λ (t : Told). t.place) (c.index-slips-k-then-not-stands_in.is ∙ get_or_from_slice_get xs c.loop-k.k x c.index-slips-k-then-not-stands_in.result at);
      other = λ s. true_false c.stands_in.result (c.stands_in.ensures.1 s) c.if-not-stands_in.true;
      before = c.loop-k.invariant;
    }

pub loop-k-preserved : goal.loop-k-preserved
loop-k-preserved c =
    let xs = c.args.slips.now in
    let x = c.index-slips-k.result in
    let at = slice_get_read xs (length xs) c.loop-k.k x refl c.loop-k-test.true c.index-slips-k.is in
    Every-more (StandsIn c.args.history.now) xs c.loop-k.k x c.loop-k.invariant at (c.stands_in.ensures.0 c.if-not-stands_in.false)
