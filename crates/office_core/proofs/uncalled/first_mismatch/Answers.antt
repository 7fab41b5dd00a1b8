use Rattle.std.proofs.Common.{refl, length, ap}
use Rattle.std.proofs.lemmas.Option.{slice_get_read, get_or_from_slice_get}
use Rattle.board_core.specs.declared.receipt.Receipt.{Receipt}
use Rattle.page_core.proofs.Lists.{true_false}
use Rattle.queue_core.proofs.Fronts.{Every-more}
use Rattle.office_core.specs.Closing.{Stands}
use Rattle.office_core.proofs.uncalled.first_mismatch.Goals as goal

pub returns-then-not-stands-clause-some : goal.returns-then-not-stands-clause-some
returns-then-not-stands-clause-some c =
    let xs = c.args.receipts.now in
    let x = c.index-receipts-k.result in
    let at = slice_get_read xs (length xs) c.loop-k.k x refl c.loop-k-test.true c.index-receipts-k.is in
    record {
      receipt = x;
      there = at;
      of = ap (λ (r : Receipt). r.place) (get_or_from_slice_get xs c.loop-k.k x c.index-receipts-k-then-not-stands.result at);
      other = λ s. true_false c.stands.result (c.stands.ensures.1 s) c.if-not-stands.true;
      before = c.loop-k.invariant;
    }

pub loop-k-preserved : goal.loop-k-preserved
loop-k-preserved c =
    let xs = c.args.receipts.now in
    let x = c.index-receipts-k.result in
    let at = slice_get_read xs (length xs) c.loop-k.k x refl c.loop-k-test.true c.index-receipts-k.is in
    Every-more (Stands c.args.history.now) xs c.loop-k.k x c.loop-k.invariant at (c.stands.ensures.0 c.if-not-stands.false)
